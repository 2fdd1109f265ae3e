-- The pages of a tree are whole.
use Rattle.std.proofs.Common.{◌≡◌, ℕ, zero, suc, ◌+◌, ◌-◌, ◌*◌, ◌%◌, ◌<◌, ◌≤◌, Bool, true, false, List, [], ◌∷◌, ◌++◌, length, drop, replicate, refl, sym, ap, subst, arith, inl, inr, length-append, length-take-le, nat_le}
use Rattle.std.specs.Prelude.{⊤}
use Rattle.std.proofs.lemmas.Bool.{cases_lt, cond-true, cond-false, le-leb, lt-leb}
use Rattle.std.proofs.lemmas.List.{length-replicate}
use Rattle.db_pages.specs.Page.{joined, leaf_page, places}
use Rattle.db_records.specs.Varint.{varint}
use Rattle.db_pages.proofs.Pages.{length-leaf_page, length-places}
use Rattle.db_pages.specs.declared.child.Child.{Child}
use Rattle.db_pages.specs.Grown.{Grown, grown, tree_of, tree_over, with_leaf}
use Rattle.csv_source.specs.Lists.{is_empty}
use Rattle.db_pages.specs.Laid.{ended, next_place, nothing_laid, with_rows}
use Rattle.db_pages.specs.Levels.{dividers, grouped, inner_page, last_child, level_children, level_pages, levels_pages, page_above}
use Rattle.db_pages.specs.Numbers.{four_bytes, number_of}
use Rattle.db_pages.proofs.Counted.{AllShort, Adds, Counts, end-counts, nothing-counts, rows-add}
use Rattle.db_pages.proofs.Grouping.{groups_of, grouped-last, grouped-more}
use Rattle.db_pages.proofs.Sizes.{varint-short}

length-inner : (right : List ℕ) (cells : List (List ℕ)) → length right ≡ 4 → 12 + 2 * length cells + length (joined cells) ≤ 4096 → length (inner_page right cells) ≡ 4096
length-inner right cells four fits =
    let n : ℕ = length cells in
    let at : ℕ = 4096 - length (joined cells) in
    let zeros : List ℕ = replicate (at - (12 + 2 * n)) 0 in
    omega (
      arith,
      four,
      fits,
      length-append right (places at cells ++ (zeros ++ joined cells)),
      length-append (places at cells) (zeros ++ joined cells),
      length-append zeros (joined cells),
      length-places at cells,
      length-replicate {A = ℕ} (at - (12 + 2 * n)) 0,
    )

pub dividers-size : (children : List Child) → 2 * length (dividers children) + length (joined (dividers children)) ≤ 14 * length children
dividers-size [] = omega arith
dividers-size (child ∷ []) = omega arith
dividers-size (child ∷ next ∷ more) =
    let number : List ℕ = four_bytes (number_of child.place) in
    let four : length number ≡ 4 = refl in
    omega (arith, four, dividers-size (next ∷ more), length-append (number ++ varint child.last) (joined (dividers (next ∷ more))), length-append number (varint child.last), varint-short child.last)

pub above-whole : (children : List Child) → length children < 256 → length (page_above children) ≡ 4096
above-whole children few = length-inner (four_bytes (number_of (last_child children).place)) (dividers children) refl (omega (arith, few, dividers-size children))

abbrev pub AllFew : List (List Child) → Type 0
AllFew [] = ⊤
AllFew (group ∷ groups) = (length group < 256) × AllFew groups

pub level-whole : (groups : List (List Child)) → AllFew groups → length (level_pages groups) % 4096 ≡ 0
level-whole [] few = refl
level-whole (group ∷ groups) few =
    omega (arith, length-append (page_above group) (level_pages groups), above-whole group few.0, level-whole groups few.1)

pub grouped-few : (fuel : ℕ) (children : List Child) → AllFew (grouped fuel children)
grouped-few zero children = tt
grouped-few (suc fuel) children =
    elim (cases_lt (length children) 256) [
      | inl few ↦ subst AllFew (sym (grouped-last fuel children few)) (few, tt)
      | inr many ↦
          subst AllFew (sym (grouped-more fuel children many)) (omega (arith, length-take-le 128 children (omega (arith, many))), grouped-few fuel (drop 128 children))
    ]

pub levels-whole : (fuel place : ℕ) (children : List Child) → length (levels_pages fuel place children) % 4096 ≡ 0
levels-whole zero place children = refl
levels-whole (suc fuel) place children =
    let groups : List (List Child) = groups_of children in
    let more : List ℕ = level_pages groups ++ levels_pages fuel (place + length groups) (level_children place groups) in
    elim (cases_lt 1 (length children)) [
      | inl many ↦
          omega (
            arith,
            ap length (cond-false (nat_le (length children) 1) [] more (lt-leb (length children) 1 many)),
            length-append (level_pages groups) (levels_pages fuel (place + length groups) (level_children place groups)),
            level-whole groups (grouped-few (length children) children),
            levels-whole fuel (place + length groups) (level_children place groups),
          )
      | inr few ↦ omega (arith, ap length (cond-true (nat_le (length children) 1) [] more (le-leb (length children) 1 few)))
    ]

pub leaf-whole : (g : Grown) → length g.pages % 4096 ≡ 0 → length (with_leaf g).pages % 4096 ≡ 0
leaf-whole g whole = by-leaves (is_empty g.leaves) refl
  where
    added : Grown
    added = record { base = g.base; pages = g.pages ++ leaf_page []; leaves = (record { place = next_place g.base g.pages; last = 0 }) ∷ [] }

    by-leaves : (test : Bool) → is_empty g.leaves ≡ test → length (with_leaf g).pages % 4096 ≡ 0
    by-leaves true is =
        omega (arith, whole, ap (λ (x : Grown). length x.pages) (cond-true (is_empty g.leaves) added g is), length-append g.pages (leaf_page []), length-leaf_page [] (omega arith))
    by-leaves false is = omega (arith, whole, ap (λ (x : Grown). length x.pages) (cond-false (is_empty g.leaves) added g is))

pub tree-whole : (base : ℕ) (rows : List (List ℕ)) → length (tree_of base rows).bytes % 4096 ≡ 0
unfolding tree_over
tree-whole base rows =
    let a : Adds (with_rows base nothing_laid 1 rows) 0 (AllShort rows) = rows-add base rows nothing_laid 1 0 nothing-counts in
    let c : Counts (ended base (with_rows base nothing_laid 1 rows)) (0 + a.added) = end-counts base (with_rows base nothing_laid 1 rows) (0 + a.added) a.counts in
    let g : Grown = with_leaf (grown base 1 rows) in
    let above : ℕ = next_place g.base g.pages in
    omega (arith, leaf-whole (grown base 1 rows) (omega (arith, c.pages-are)), length-append g.pages (levels_pages 6 above g.leaves), levels-whole 6 above g.leaves)
