-- The pages of rows, once the leaf under way has ended.
use Rattle.std.proofs.Common.{◌≡◌, ℕ, ◌+◌, ◌-◌, ◌*◌, true, false, map, ◌≤◌, ◌||◌, ◌==◌, Bool, List, [], ◌∷◌, ◌++◌, length, refl, sym, ◌∙◌, ap, arith, length-append}
use Rattle.std.proofs.lemmas.Bool.{cond-true, cond-false, false≢true}
use Rattle.std.proofs.lemmas.Bool.Decides.{nat_tests}
use Rattle.db_pages.specs.Page.{joined, leaf_page}
use Rattle.db_pages.proofs.Pages.{length-leaf_page}
use Rattle.db_pages.specs.declared.child.Child.{Child}
use Rattle.csv_source.specs.Lists.{is_empty}
use Rattle.db_pages.specs.Laid.{next_place}
use Rattle.db_pages.specs.Grown.{Grown, behind, closed, holds_at, moved, with_leaf}

same-test : (a b c d : ℕ) → c ≡ a + 4096 → d ≡ b + 4096 → (c == d) ≡ (a == b)
same-test a b c d left right = grind (arith, nat_tests)

pub holds-cells : (place base : ℕ) (pages : List ℕ) (leaves : List Child) (cells : List (List ℕ)) (last : ℕ) → 8 + 2 * length cells + length (joined cells) ≤ 4096 →
    holds_at place (closed (record { base = base; laid = record { pages = pages; leaves = leaves; cells = cells; last = last } })) ≡ ((base == place) || (length pages == 4096 * length leaves))
holds-cells place base pages leaves [] last fits = refl
holds-cells place base pages leaves (cell ∷ cells) last fits =
    let leaf : Child = record { place = next_place base pages; last = last } in
    ap (λ (b : Bool). (base == place) || b)
    (same-test (length pages) (4096 * length leaves) (length (pages ++ leaf_page (cell ∷ cells))) (4096 * length (leaves ++ leaf ∷ []))
    (length-append pages (leaf_page (cell ∷ cells)) ∙ ap (λ n. length pages + n) (length-leaf_page (cell ∷ cells) fits))
    (omega (arith, length-append leaves (leaf ∷ []))))

-- where the pages end that are left once the leaf under way has ended
module _ (base : ℕ) (pages : List ℕ) (leaves : List Child) (last : ℕ) where
  pub ends-behind : (cells : List (List ℕ)) → is_empty cells ≡ false → 8 + 2 * length cells + length (joined cells) ≤ 4096 →
      next_place base pages + 1 ≡ next_place base (closed (record { base = base; laid = record { pages = pages; leaves = leaves; cells = cells; last = last } })).pages
  ends-behind [] e fits = absurd (false≢true (sym e))
  ends-behind (cell ∷ cells) e fits = omega (arith, length-append pages (leaf_page (cell ∷ cells)), length-leaf_page (cell ∷ cells) fits)

-- an empty leaf behind pages that have none
pub first_leaf : (g : Grown) (page : List ℕ) (leaves : List Child) (place : ℕ) → is_empty g.leaves ≡ true → place ≡ next_place g.base g.pages →
    page ≡ leaf_page [] → leaves ≡ (record { place = place; last = 0 }) ∷ [] → behind g (record { base = place; pages = page; leaves = leaves }) ≡ with_leaf g
first_leaf g page leaves place empty here one two =
    let next : ℕ = next_place g.base g.pages in
    let first : List Child = (record { place = next; last = 0 }) ∷ [] in
    let added : Grown = record { base = g.base; pages = g.pages ++ leaf_page []; leaves = first } in
    let same : next + (place - place) ≡ next = omega arith in
    ap (λ xs. record { base = g.base; pages = g.pages ++ xs; leaves = g.leaves ++ map (moved place next) leaves }) one
    ∙ ap (λ cs. record { base = g.base; pages = g.pages ++ leaf_page []; leaves = g.leaves ++ map (moved place next) cs }) two
    ∙ ap (λ cs. record { base = g.base; pages = g.pages ++ leaf_page []; leaves = cs ++ (record { place = next + (place - place); last = 0 }) ∷ [] }) (none-of g.leaves empty)
    ∙ ap (λ n. record { base = g.base; pages = g.pages ++ leaf_page []; leaves = (record { place = n; last = 0 }) ∷ [] }) same
    ∙ sym (cond-true (is_empty g.leaves) added g empty)
  where
    none-of : (cs : List Child) → is_empty cs ≡ true → cs ≡ []
    none-of [] e = refl
    none-of (c ∷ cs) e = absurd (false≢true e)

pub some_leaf : (g : Grown) → is_empty g.leaves ≡ false → g ≡ with_leaf g
some_leaf g some = sym (cond-false (is_empty g.leaves) (record { base = g.base; pages = g.pages ++ leaf_page []; leaves = (record { place = next_place g.base g.pages; last = 0 }) ∷ [] }) g some)

pub is_empty-length : (cs : List Child) → is_empty cs ≡ (length cs == 0)
is_empty-length [] = refl
is_empty-length (c ∷ cs) = grind (arith, nat_tests)
