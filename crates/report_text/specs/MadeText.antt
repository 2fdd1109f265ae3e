-- A large valid text that is made from a number (this loader's profile; the multiplier is Knuth's, The Art of Computer Programming 6.4).
use Rattle.std.specs.Prelude.{ℕ, ◌+◌, ◌*◌, ◌/◌, ◌%◌, ◌^◌, ◌==◌, if◌then◌else◌, List, [], ◌∷◌, ◌++◌, codes, flat_map}
use Rattle.std.specs.List.{range_with_len, join_with_byte}
use Rattle.std.specs.Fmt.{decimal}
use Rattle.std.specs.Str.{byte}
use Rattle.value_types.specs.ValueText.{padded, truth_text}

-- the number that row i is made of
abbrev pub row_number : ℕ → ℕ → ℕ
row_number number i = ((number + i) * 2_654_435_761) % 2 ^ 32

-- a day of the year 2000
abbrev pub made_day : ℕ → List ℕ
made_day x = codes "2000-" ++ padded 2 (1 + x / 2 % 12) ++ codes "-" ++ padded 2 (1 + x / 32 % 28)

-- a quoted text with doubled quotes, and in each sixteenth row an LF for a space
abbrev pub made_note : ℕ → ℕ → List ℕ
made_note i x =
    codes "\"note \"\"" ++ decimal (x % 1000) ++ codes "\"\"," ++ (if i % 16 == 15 then codes "\n" else codes " ") ++ decimal x ++ codes "\""

abbrev pub made_row : ℕ → ℕ → List ℕ
made_row number i = let x = row_number number i in
    join_with_byte (byte ",") (decimal i ∷ truth_text (x % 2 == 1) ∷ made_day x ∷ made_note i x ∷ []) ++ codes "\n"

abbrev pub made_text : ℕ → ℕ → List ℕ
made_text number rows = codes "id,ok,day,note\n" ++ flat_map (made_row number) (range_with_len 0 rows)
