-- The shortest and the longest text, cell by cell.
use Rattle.std.proofs.Common.{◌≡◌, ◌⊎◌, inl, inr, ℕ, ◌≤◌, List, [], ◌∷◌, ◌++◌, Option, Some, None, length, sym, ◌∙◌, refl, arith}
use Rattle.std.specs.Prelude.{All, min, max}
use Rattle.std.specs.Option.{MatchOption}
use Rattle.std.proofs.lemmas.List.Elements.{All-nil, All-push, All-weaker, Contains-append_left, Contains-push}
use Rattle.value_types.specs.Datum.{Datum, null, typed, text}
use Rattle.column_profile.specs.declared.lengths.Lengths.{Lengths}
use Rattle.column_profile.specs.Laws.{AreLengthsOf, HasNoText, HasTextOf, LengthsAreExact, MeasuresWithin}
use Rattle.column_profile.specs.Tally.{lengths_with}
use Rattle.column_profile.proofs.EachCell.{holds_of_all}

abbrev HasLengths : List Datum → Option Lengths → Type 0
HasLengths cells lengths = MatchOption lengths (All HasNoText cells) (AreLengthsOf cells)

min_of_two : (a b : ℕ) → (min a b ≡ a) ⊎ (min a b ≡ b)
min_of_two a b = grind arith

max_of_two : (a b : ℕ) → (max a b ≡ a) ⊎ (max a b ≡ b)
max_of_two a b = grind arith

-- ---- one cell more

text_stays : (before : List Datum) (cell : Datum) (n : ℕ) → HasTextOf before n → HasTextOf (before ++ cell ∷ []) n
text_stays before cell n has = (has.0, Contains-append_left before (cell ∷ []) (text has.0) has.1, has.2)

one_measured : (cells : List Datum) (a b n : ℕ) → (n ≡ a) ⊎ (n ≡ b) → HasTextOf cells a → HasTextOf cells b → HasTextOf cells n
one_measured cells a b n (inl is) first second = (first.0, first.1, first.2 ∙ sym is)
one_measured cells a b n (inr is) first second = (second.0, second.1, second.2 ∙ sym is)

lengths_stay : (before : List Datum) (cell : Datum) (lengths : Lengths) → MeasuresWithin lengths cell → AreLengthsOf before lengths → AreLengthsOf (before ++ cell ∷ []) lengths
lengths_stay before cell lengths here are = record {
  shortest = text_stays before cell lengths.shortest are.shortest;
  longest = text_stays before cell lengths.longest are.longest;
  within = All-push (MeasuresWithin lengths) before cell are.within here;
}

textless_within : (lengths : Lengths) (cell : Datum) → HasNoText cell → MeasuresWithin lengths cell
textless_within lengths null has = tt
textless_within lengths (typed value) has = tt
textless_within lengths (text bytes) has = absurd has

widened : (narrow wide : Lengths) → wide.shortest ≤ narrow.shortest → narrow.longest ≤ wide.longest → (cell : Datum) → MeasuresWithin narrow cell → MeasuresWithin wide cell
widened narrow wide below above null measures = tt
widened narrow wide below above (typed value) measures = tt
widened narrow wide below above (text bytes) measures = (omega (arith, below, measures.0), omega (arith, above, measures.1))

module _ (before : List Datum) (bytes : List ℕ) where
  has_it : HasTextOf (before ++ text bytes ∷ []) (length bytes)
  has_it = (bytes, Contains-push before (text bytes), refl)

  first_text : All HasNoText before → AreLengthsOf (before ++ text bytes ∷ []) (record { shortest = length bytes; longest = length bytes })
  first_text none =
      let lengths : Lengths = record { shortest = length bytes; longest = length bytes } in record {
        shortest = has_it;
        longest = has_it;
        within = All-push (MeasuresWithin lengths) before (text bytes) (All-weaker HasNoText (MeasuresWithin lengths) (textless_within lengths) before none) (omega arith, omega arith);
      }

  next_text : (lengths : Lengths) → AreLengthsOf before lengths
      → AreLengthsOf (before ++ text bytes ∷ []) (record { shortest = min lengths.shortest (length bytes); longest = max lengths.longest (length bytes) })
  next_text lengths are =
      let wide : Lengths = record { shortest = min lengths.shortest (length bytes); longest = max lengths.longest (length bytes) } in record {
        shortest = one_measured (before ++ text bytes ∷ []) lengths.shortest (length bytes) wide.shortest (min_of_two lengths.shortest (length bytes))
            (text_stays before (text bytes) lengths.shortest are.shortest) has_it;
        longest = one_measured (before ++ text bytes ∷ []) lengths.longest (length bytes) wide.longest (max_of_two lengths.longest (length bytes))
            (text_stays before (text bytes) lengths.longest are.longest) has_it;
        within = All-push (MeasuresWithin wide) before (text bytes)
            (All-weaker (MeasuresWithin lengths) (MeasuresWithin wide) (widened lengths wide (omega arith) (omega arith)) before are.within)
            (omega arith, omega arith);
      }

lengths_keep : (before : List Datum) (lengths : Option Lengths) (cell : Datum) → HasLengths before lengths → HasLengths (before ++ cell ∷ []) (lengths_with lengths cell)
lengths_keep before None null has = All-push HasNoText before null has tt
lengths_keep before None (typed value) has = All-push HasNoText before (typed value) has tt
lengths_keep before None (text bytes) has = first_text before bytes has
lengths_keep before (Some lengths) null has = lengths_stay before null lengths tt has
lengths_keep before (Some lengths) (typed value) has = lengths_stay before (typed value) lengths tt has
lengths_keep before (Some lengths) (text bytes) has = next_text before bytes lengths has

pub lengths_exact : LengthsAreExact
lengths_exact = holds_of_all lengths_with HasLengths lengths_keep None (All-nil HasNoText)
