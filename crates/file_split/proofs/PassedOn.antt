-- Pieces of a file that go through its cuts one after another.
use Rattle.std.proofs.Common.{◌≡◌, ◌⊎◌, inl, inr, ℕ, ◌+◌, ◌-◌, ◌≤◌, true, false, List, [], ◌∷◌, ◌++◌, length, take, drop, Option, refl, sym, ◌∙◌, ap, arith, append-nil, append_assoc, length-append}
use Rattle.std.specs.Io.KnownBytes.{Consumes, IsAtEnd}
use Rattle.std.proofs.KnownBytes.{Consumes-nil, Consumes-trans}
use Rattle.std.proofs.lemmas.List.{take-append-drop, take-append-le, length-drop, length-take-le}
use Rattle.csv_source.specs.Moves.{MovesFront}
use Rattle.part_cuts.specs.Reading.{Reading, reading}
use Rattle.part_cuts.specs.Within.{most_bytes}
use Rattle.part_cuts.proofs.ReadingLaws.{pieces_add_up}
use Rattle.file_split.specs.declared.file_piece.FilePiece.{FilePiece}
use Rattle.file_split.specs.WholeFile.{bytes_passed, IsPassed}

-- all bytes but two go through, or none do
two_stay : (kept : List ℕ) → (take (bytes_passed kept) kept ≡ []) ⊎ (2 ≤ length (drop (bytes_passed kept) kept))
two_stay [] = inl refl
two_stay (x ∷ []) = inl refl
two_stay (x ∷ y ∷ rest) =
    let all : List ℕ = x ∷ y ∷ rest in
    let long : length all ≡ length rest + 2 = omega arith in
    inr (omega (arith, long, length-drop (bytes_passed all) all))

module _ (first : FilePiece) (before : Option (List ℕ)) (start : Reading) where
  -- some bytes came behind the first ones, none where the file had ended, and all but those that are kept went through: whatever comes
  -- behind those, it is read on as if all were read at once
  pub record IsPassedOn (now : Option (List ℕ)) (cuts : Reading) (kept : List ℕ) : Type 0 where
    pub gone : List ℕ
    pub came : List ℕ
    pub whole : gone ++ kept ≡ first.bytes ++ came
    pub taken : Consumes before now came
    pub quiet : first.ended ≡ true → came ≡ []
    pub place : cuts.tally.bytes ≡ start.tally.bytes + length gone
    pub read : (ys seen more : List ℕ) → ys ++ seen ≡ kept ++ more → reading cuts ys seen ≡ reading start (gone ++ ys) seen

  pub none_passed : IsPassedOn before start first.bytes
  none_passed = record {
    gone = [];
    came = [];
    whole = sym (append-nil first.bytes);
    taken = Consumes-nil before;
    quiet = λ ended. refl;
    place = omega arith;
    read = λ ys seen more same. refl;
  }

  module _ (now : Option (List ℕ)) (cuts : Reading) (kept : List ℕ) (so_far : IsPassedOn now cuts kept) where
    abbrev n : ℕ
    n = bytes_passed kept

    abbrev front : List ℕ
    front = take n kept

    read_past : (seam : (front ≡ []) ⊎ (2 ≤ length (drop n kept))) (ys seen more : List ℕ) → ys ++ seen ≡ drop n kept ++ more →
        reading (reading cuts front (drop n kept)) ys seen ≡ reading start ((so_far.gone ++ front) ++ ys) seen
    read_past seam ys seen more same =
        let all : (front ++ ys) ++ seen ≡ kept ++ more =
        append_assoc front ys seen
        ∙ (ap (λ (l : List ℕ). front ++ l) same ∙ (sym (append_assoc front (drop n kept) more) ∙ ap (λ (l : List ℕ). l ++ more) (take-append-drop n kept))) in
        added seam
        ∙ (so_far.read (front ++ ys) seen more all ∙ ap (λ (l : List ℕ). reading start l seen) (sym (append_assoc so_far.gone front ys)))
      where
        added : (front ≡ []) ⊎ (2 ≤ length (drop n kept)) → reading (reading cuts front (drop n kept)) ys seen ≡ reading cuts (front ++ ys) seen
        added (inl none) =
            ap (λ (l : List ℕ). reading (reading cuts l (drop n kept)) ys seen) none ∙ ap (λ (l : List ℕ). reading cuts (l ++ ys) seen) (sym none)
        added (inr two) = pieces_add_up cuts front ys seen (drop n kept) (sym (ap (take 2) same ∙ take-append-le 2 (drop n kept) more two))

    pub front_passed : (cuts2 : Reading) (kept2 : List ℕ) → kept2 ≡ drop n kept → cuts2 ≡ reading cuts front (drop n kept) → cuts2.tally.bytes ≡ cuts.tally.bytes + n →
        IsPassedOn now cuts2 kept2
    front_passed cuts2 kept2 stays is place = record {
      gone = so_far.gone ++ front;
      came = so_far.came;
      whole =
          ap (λ (l : List ℕ). (so_far.gone ++ front) ++ l) stays
          ∙ (append_assoc so_far.gone front (drop n kept) ∙ (ap (λ (l : List ℕ). so_far.gone ++ l) (take-append-drop n kept) ∙ so_far.whole));
      taken = so_far.taken;
      quiet = so_far.quiet;
      place = omega (arith, place, so_far.place, length-append so_far.gone front, length-take-le n kept (omega arith));
      read = λ ys seen more same.
          ap (λ q. reading q ys seen) is ∙ read_past (two_stay kept) ys seen more (same ∙ ap (λ (l : List ℕ). l ++ more) stays);
    }

    pub more_came : (now2 : Option (List ℕ)) (kept2 : List ℕ) → ¬ (first.ended ≡ true) → MovesFront now now2 kept kept2 → IsPassedOn now2 cuts kept2
    more_came now2 kept2 going moves = record {
      gone = so_far.gone;
      came = so_far.came ++ moves.0;
      whole =
          ap (λ (l : List ℕ). so_far.gone ++ l) moves.1
          ∙ (sym (append_assoc so_far.gone kept moves.0) ∙ (ap (λ (l : List ℕ). l ++ moves.0) so_far.whole ∙ append_assoc first.bytes so_far.came moves.0));
      taken = Consumes-trans before now now2 so_far.came moves.0 so_far.taken moves.2;
      quiet = λ ended. absurd (going ended);
      place = so_far.place;
      read = λ ys seen more same.
          so_far.read ys seen (moves.0 ++ more) (same ∙ (ap (λ (l : List ℕ). l ++ more) moves.1 ∙ append_assoc kept moves.0 more));
    }

    reached : length (first.bytes ++ so_far.came) + start.tally.bytes ≡ cuts.tally.bytes + length kept
    reached = omega (arith, ap length so_far.whole, length-append so_far.gone kept, so_far.place)

    pub all_passed : (cuts2 : Reading) → IsAtEnd now → cuts.tally.bytes + length kept ≤ most_bytes → cuts2 ≡ reading cuts kept [] → IsPassed before now first start cuts2 true
    all_passed cuts2 end fits is = (
      so_far.came,
      so_far.taken,
      end,
      so_far.quiet,
      omega (arith, reached, fits),
      is ∙ (so_far.read kept [] [] refl ∙ ap (λ (l : List ℕ). reading start l []) so_far.whole),
    )

    pub over_passed : (cuts2 : Reading) → start.tally.bytes ≤ most_bytes → cuts.tally.bytes + length kept ≡ most_bytes + 1 → IsPassed before now first start cuts2 false
    over_passed cuts2 some over = (so_far.came, so_far.taken, omega (arith, reached, over, some))
