-- Rows laid out behind pages, and the same rows laid out alone.
use Rattle.std.proofs.Common.{◌≡◌, ◌⊎◌, ℕ, ◌+◌, ◌-◌, ◌*◌, ◌%◌, ◌<◌, ◌≤◌, ◌==◌, Bool, true, false, if◌then◌else◌, List, [], ◌∷◌, ◌++◌, length, map, drop, refl, sym, ◌∙◌, ap, subst, arith, inl, inr, append_assoc, length-append, nat_le}
use Rattle.std.specs.Prelude.{⊤}
use Rattle.std.proofs.lemmas.Bool.{cases_lt, cond-true, cond-false, le-leb, lt-leb}
use Rattle.std.proofs.lemmas.List.{map-append}
use Rattle.sqlite_format.specs.declared.kind.Tree.TheVariants.{Table}
use Rattle.sqlite_format.specs.Cell.{local_len}
use Rattle.db_records.specs.Cell.{cell_bytes}
use Rattle.db_pages.specs.Page.{joined, leaf_page}
use Rattle.db_pages.specs.declared.child.Child.{Child}
use Rattle.csv_source.specs.Lists.{is_empty}
use Rattle.db_pages.specs.Laid.{Laid, chain, ended, finished, long_cell, next_place, roomy, with_long, with_row, with_rows, with_short}
use Rattle.db_pages.specs.Grown.{moved}
use Rattle.db_pages.proofs.Sizes.{long-size, short-size}

-- rows that were laid out behind `from` pages and stand behind these pages and leaves, the next of whose places is `to`
pub record Follows (from to : ℕ) (pages : List ℕ) (leaves : List Child) (laid alone : Laid) : Type 0 where
  pub pages-are : laid.pages ≡ pages ++ alone.pages
  pub leaves-are : laid.leaves ≡ leaves ++ map (moved from to) alone.leaves
  pub cells-are : laid.cells ≡ alone.cells
  pub last-is : 0 < length alone.cells → laid.last ≡ alone.last

-- rows that name no page, unless they stand where they were laid out
abbrev pub AllMay : ℕ → ℕ → List (List ℕ) → Type 0
AllMay from to [] = ⊤
AllMay from to (row ∷ rows) = ((from ≡ to) ⊎ (length row ≤ 4061)) × AllMay from to rows

module _ (base from to : ℕ) (pages : List ℕ) (leaves : List Child) (whole : length pages % 4096 ≡ 0) (next : to ≡ next_place base pages) where
  abbrev Follow : Laid → Laid → Type 0
  Follow laid alone = Follows from to pages leaves laid alone

  both : (laid alone laid′ alone′ : Laid) → laid′ ≡ laid → alone′ ≡ alone → Follow laid alone → Follow laid′ alone′
  both laid alone laid′ alone′ one two f = subst (λ x. Follow x alone′) (sym one) (subst (λ y. Follow laid y) (sym two) f)

  -- the place of the next page
  places : (laid alone : Laid) → Follow laid alone → next_place base laid.pages ≡ to + (next_place from alone.pages - from)
  places laid alone f = omega (arith, next, whole, ap length f.pages-are, length-append pages alone.pages)

  finish : (laid alone : Laid) → Follow laid alone → 0 < length alone.cells → Follow (finished base laid) (finished from alone)
  finish laid alone f some =
      let here : Child = record { place = next_place base laid.pages; last = laid.last } in
      let there : Child = record { place = next_place from alone.pages; last = alone.last } in
      let same : here ≡ moved from to there =
      ap (λ n. record { place = n; last = laid.last }) (places laid alone f) ∙ ap (λ n. record { place = to + (there.place - from); last = n }) (f.last-is some) in
      record {
        pages-are = ap (λ xs. xs ++ leaf_page laid.cells) f.pages-are ∙ ap (λ cs. (pages ++ alone.pages) ++ leaf_page cs) f.cells-are ∙ append_assoc pages alone.pages (leaf_page alone.cells);
        leaves-are = ap (λ xs. xs ++ here ∷ []) f.leaves-are ∙ ap (λ c. (leaves ++ map (moved from to) alone.leaves) ++ c ∷ []) same
            ∙ append_assoc leaves (map (moved from to) alone.leaves) (moved from to there ∷ [])
            ∙ ap (λ xs. leaves ++ xs) (sym (map-append (moved from to) alone.leaves (there ∷ [])));
        cells-are = refl;
        last-is = λ no. absurd (let none : ⊥ = omega (arith, no) in none);
      }

  room : (laid alone : Laid) (size : ℕ) → size ≤ 4086 → Follow laid alone → Follow (roomy base laid size) (roomy from alone size)
  room laid alone size small f =
      let used = λ (l : Laid). 8 + 2 * (length l.cells + 1) + length (joined l.cells) + size in
      let same : used laid ≡ used alone = ap (λ cs. 8 + 2 * (length cs + 1) + length (joined cs) + size) f.cells-are in
      elim (cases_lt 4096 (used alone)) [
        | inl full ↦
            both (finished base laid) (finished from alone) (roomy base laid size) (roomy from alone size)
            (cond-false (nat_le (used laid) 4096) laid (finished base laid) (lt-leb (used laid) 4096 (omega (arith, same, full))))
            (cond-false (nat_le (used alone) 4096) alone (finished from alone) (lt-leb (used alone) 4096 full))
            (finish laid alone f (full-some alone.cells (omega (arith, full))))
        | inr fits ↦
            both laid alone (roomy base laid size) (roomy from alone size)
            (cond-true (nat_le (used laid) 4096) laid (finished base laid) (le-leb (used laid) 4096 (omega (arith, same, fits))))
            (cond-true (nat_le (used alone) 4096) alone (finished from alone) (le-leb (used alone) 4096 fits))
            f
      ]
    where
      full-some : (cells : List (List ℕ)) → 4096 < 8 + 2 * (length cells + 1) + length (joined cells) + size → 0 < length cells
      full-some [] full = absurd (let no : ⊥ = omega (arith, full, small) in no)
      full-some (c ∷ cells) full = omega arith

  short : (laid alone : Laid) (rowid : ℕ) (row : List ℕ) → length row ≤ 4061 → Follow laid alone → Follow (with_short base laid rowid row) (with_short from alone rowid row)
  short laid alone rowid row few f =
      let cell : List ℕ = cell_bytes rowid row in
      let g = room laid alone (length cell) (short-size rowid row few) f in
      record {
        pages-are = g.pages-are;
        leaves-are = g.leaves-are;
        cells-are = ap (λ cs. cs ++ cell ∷ []) g.cells-are;
        last-is = λ _. refl;
      }

  long : (laid alone : Laid) (rowid : ℕ) (row : List ℕ) → from ≡ to → Follow laid alone → Follow (with_long base laid rowid row) (with_long from alone rowid row)
  long laid alone rowid row same f =
      let size : ℕ = length (long_cell 0 rowid row) in
      let rest : List ℕ = drop (local_len Table 4096 (length row)) row in
      let left : Laid = roomy base laid size in
      let right : Laid = roomy from alone size in
      let g : Follow left right = room laid alone size (long-size 0 rowid row) f in
      let place : next_place base left.pages ≡ next_place from right.pages = omega (arith, places left right g, same) in
      record {
        pages-are = ap (λ p. left.pages ++ chain (length row) p rest) place ∙ ap (λ xs. xs ++ chain (length row) (next_place from right.pages) rest) g.pages-are
            ∙ append_assoc pages right.pages (chain (length row) (next_place from right.pages) rest);
        leaves-are = g.leaves-are;
        cells-are = ap (λ cs. cs ++ long_cell (next_place base left.pages) rowid row ∷ []) g.cells-are ∙ ap (λ p. right.cells ++ long_cell p rowid row ∷ []) place;
        last-is = λ _. refl;
      }

  one : (laid alone : Laid) (rowid : ℕ) (row : List ℕ) → (from ≡ to) ⊎ (length row ≤ 4061) → Follow laid alone → Follow (with_row base laid rowid row) (with_row from alone rowid row)
  one laid alone rowid row may f =
      elim (cases_lt 4061 (length row)) [
        | inl much ↦
            both (with_long base laid rowid row) (with_long from alone rowid row) (with_row base laid rowid row) (with_row from alone rowid row)
            (cond-false (nat_le (length row) 4061) (with_short base laid rowid row) (with_long base laid rowid row) (lt-leb (length row) 4061 much))
            (cond-false (nat_le (length row) 4061) (with_short from alone rowid row) (with_long from alone rowid row) (lt-leb (length row) 4061 much))
            (long laid alone rowid row (elim may [ inl same ↦ same | inr few ↦ absurd (let no : ⊥ = omega (arith, much, few) in no) ]) f)
        | inr few ↦
            both (with_short base laid rowid row) (with_short from alone rowid row) (with_row base laid rowid row) (with_row from alone rowid row)
            (cond-true (nat_le (length row) 4061) (with_short base laid rowid row) (with_long base laid rowid row) (le-leb (length row) 4061 few))
            (cond-true (nat_le (length row) 4061) (with_short from alone rowid row) (with_long from alone rowid row) (le-leb (length row) 4061 few))
            (short laid alone rowid row few f)
      ]

  pub end : (laid alone : Laid) → Follow laid alone → Follow (ended base laid) (ended from alone)
  end laid alone f = by-cells alone.cells refl
    where
      by-cells : (cells : List (List ℕ)) → alone.cells ≡ cells → Follow (ended base laid) (ended from alone)
      by-cells [] is =
          both laid alone (ended base laid) (ended from alone)
          (cond-true (is_empty laid.cells) laid (finished base laid) (ap is_empty (f.cells-are ∙ is)))
          (cond-true (is_empty alone.cells) alone (finished from alone) (ap is_empty is)) f
      by-cells (c ∷ cells) is =
          both (finished base laid) (finished from alone) (ended base laid) (ended from alone)
          (cond-false (is_empty laid.cells) laid (finished base laid) (ap is_empty (f.cells-are ∙ is)))
          (cond-false (is_empty alone.cells) alone (finished from alone) (ap is_empty is))
          (finish laid alone f (omega (arith, ap length is)))

  -- the end of a block
  step : (test : Bool) (laid alone : Laid) → Follow laid alone → Follow (if test then ended base laid else laid) (if test then ended from alone else alone)
  step true laid alone f = end laid alone f
  step false laid alone f = f

  pub all : (rows : List (List ℕ)) (laid alone : Laid) (rowid : ℕ) → AllMay from to rows → Follow laid alone → Follow (with_rows base laid rowid rows) (with_rows from alone rowid rows)
  all [] laid alone rowid may f = f
  all (row ∷ rows) laid alone rowid may f =
      all rows (if rowid % 8192 == 0 then ended base (with_row base laid rowid row) else with_row base laid rowid row)
      (if rowid % 8192 == 0 then ended from (with_row from alone rowid row) else with_row from alone rowid row) (rowid + 1) may.1
      (step (rowid % 8192 == 0) (with_row base laid rowid row) (with_row from alone rowid row) (one laid alone rowid row may.0 f))
