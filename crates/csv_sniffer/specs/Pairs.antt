-- Places between a CR and its LF.
use Rattle.std.specs.Prelude.{ℕ, ◌&&◌, ◌==◌, Bool, false, List, [], ◌∷◌, drop}
use Rattle.byte_classes.specs.Dialect.{is_byte}
use Rattle.byte_classes.specs.Places.{byte_before}

-- whether some bytes open with an LF
abbrev pub opens_with_lf : List ℕ → Bool
opens_with_lf [] = false
opens_with_lf (b ∷ bytes) = b == 10

-- whether a place stands between the CR and the LF of a pair
abbrev pub parts_pair : List ℕ → ℕ → Bool
parts_pair bytes place = is_byte (byte_before bytes place) 13 && opens_with_lf (drop place bytes)
