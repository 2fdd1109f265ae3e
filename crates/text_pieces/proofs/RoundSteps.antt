-- The lines of rows that are written round by round.
use Rattle.std.proofs.Common.{◌≡◌, ℕ, suc, ◌+◌, ◌-◌, ◌<◌, ◌≤◌, List, [], ◌∷◌, ◌++◌, length, take, drop, get_or, sym, ◌∙◌, ap, arith, drop-cons, take-append-drop}
use Rattle.std.specs.Prelude.{slice_range}
use Rattle.std.specs.List.{concat}
use Rattle.std.proofs.lemmas.List.Folds.{concat-append}
use Rattle.std.proofs.lemmas.List.{drop-drop, drop_all}
use Rattle.text_pieces.proofs.Ranges.{range-none, range-split}

module _ (lines : List (List ℕ)) where
  -- the lines of a round, split at a row
  pub round-split : (from mid to : ℕ) → from ≤ mid → mid ≤ to → concat (slice_range lines from to) ≡ concat (slice_range lines from mid) ++ concat (slice_range lines mid to)
  round-split from mid to low high = ap concat (sym (range-split lines from mid to low high)) ∙ concat-append (slice_range lines from mid) (slice_range lines mid to)

  -- the first line, and those behind it
  pub round-first : (from to : ℕ) → from < to → from < length lines → concat (slice_range lines from to) ≡ get_or lines from [] ++ concat (slice_range lines (from + 1) to)
  round-first from to some within =
      let count : to - from ≡ suc (to - (from + 1)) = omega arith in
      let one : suc from ≡ from + 1 = omega arith in
      ap concat ((λ i. take (count i) (drop-cons lines from [] within i)) ∙ ap (λ k. get_or lines from [] ∷ take (to - (from + 1)) (drop k lines)) one)

  pub round-over : (at to : ℕ) → at ≡ to → concat (slice_range lines at to) ≡ []
  round-over at to is = ap concat (range-none lines at to is)

  -- the lines that are left: those of a round, and those behind it
  pub lines-left : (from to : ℕ) → from ≤ to → concat (drop from lines) ≡ concat (slice_range lines from to) ++ concat (drop to lines)
  lines-left from to ordered =
      let place : from + (to - from) ≡ to = omega (arith, ordered) in
      ap concat (sym (take-append-drop (to - from) (drop from lines)))
      ∙ concat-append (slice_range lines from to) (drop (to - from) (drop from lines))
      ∙ ap (λ rest. concat (slice_range lines from to) ++ concat rest) (drop-drop (to - from) from lines ∙ ap (λ n. drop n lines) place)

  pub no-lines-left : (k : ℕ) → length lines ≤ k → concat (drop k lines) ≡ []
  no-lines-left k past = ap concat (drop_all k lines past)
