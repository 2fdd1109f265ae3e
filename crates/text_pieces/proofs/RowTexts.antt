-- The texts of rows, each of which has a line.
use Rattle.std.proofs.Common.{◌≡◌, ℕ, ◌+◌, ◌-◌, ◌<◌, ◌≤◌, List, [], ◌∷◌, ◌++◌, length, map, take, drop, get_or, refl, sym, ◌∙◌, ap, append_assoc, append-nil}
use Rattle.std.specs.Prelude.{flat_map, slice_range}
use Rattle.std.specs.List.{concat}
use Rattle.std.proofs.lemmas.Grind.{flat_map-append}
use Rattle.std.proofs.lemmas.List.{drop-map, take-map}
use Rattle.text_pieces.proofs.Ranges.{range-append, range-more}

module _ {X : Type 0} (line : X → List ℕ) where
  -- the lines of all rows
  pub lines-all : (rows : List X) → concat (map line rows) ≡ flat_map line rows
  lines-all [] = refl
  lines-all (row ∷ rows) = ap (λ text. line row ++ text) (lines-all rows)

  -- the lines of some of the rows, as lines and as a text
  pub lines-range : (rows : List X) (from to : ℕ) → concat (slice_range (map line rows) from to) ≡ flat_map line (slice_range rows from to)
  lines-range rows from to =
      ap concat (ap (take (to - from)) (drop-map line from rows) ∙ take-map line (to - from) (drop from rows)) ∙ lines-all (slice_range rows from to)

  -- a row's line was appended to those before
  pub line_appended : (rows : List X) (d : X) (first row : ℕ) (old into new : List ℕ) → first ≤ row → row < length rows →
      into ≡ old ++ flat_map line (slice_range rows first row) → new ≡ into ++ line (get_or rows row d) → new ≡ old ++ flat_map line (slice_range rows first (row + 1))
  line_appended rows d first row old into new ordered within before text =
      let front : List ℕ = flat_map line (slice_range rows first row) in
      let own : List ℕ = line (get_or rows row d) in
      text ∙ ap (λ xs. xs ++ own) before ∙ append_assoc old front own
      ∙ ap (λ xs. old ++ xs)
      (ap (λ xs. front ++ xs) (sym (append-nil own))
      ∙ sym (flat_map-append line (slice_range rows first row) (get_or rows row d ∷ []))
      ∙ ap (flat_map line) (sym (range-more rows first row d ordered within)))

  -- the lines of a part were appended, with those of the rows behind it
  pub part_appended : (rows more : List X) (low high low' high' : ℕ) (into new : List ℕ) → low ≤ high → low' ≡ low - length rows → high' ≡ high - length rows →
      new ≡ into ++ flat_map line (slice_range rows low high) → new ++ flat_map line (slice_range more low' high') ≡ into ++ flat_map line (slice_range (rows ++ more) low high)
  part_appended rows more low high low' high' into new ordered less_low less_high text =
      let here : List ℕ = flat_map line (slice_range rows low high) in
      (λ i. text i ++ flat_map line (slice_range more (less_low i) (less_high i)))
      ∙ append_assoc into here (flat_map line (slice_range more (low - length rows) (high - length rows)))
      ∙ ap (λ xs. into ++ xs)
      (sym (flat_map-append line (slice_range rows low high) (slice_range more (low - length rows) (high - length rows)))
      ∙ ap (flat_map line) (sym (range-append rows more low high ordered)))
