-- Words of eight bytes, of which the first counts least, and the digits in them.
use Rattle.std.specs.Prelude.{◌≡◌, ◌<◌, ◌≤◌, ℕ, ◌+◌, ◌*◌, ◌^◌, ◌==◌, ◌++◌, if◌then◌else◌, List, [], ◌∷◌, length, map, nat_lt, Bool}
use Rattle.std.specs.Int.Bits.{bit_xor}
use Rattle.std.specs.Simd.Lanes.{Each1, number_l}
use Rattle.std.specs.Str.{byte}

-- the number that bytes make
abbrev pub word_of : List ℕ → ℕ
word_of bytes = number_l 256 bytes

-- eight bytes
abbrev pub IsWord : List ℕ → Type 0
IsWord bytes = (length bytes ≡ 8) × Each1 (λ b. b < 256) bytes

-- a word whose first bytes are the text
abbrev pub BeginsWord : List ℕ → ℕ → Type 0
BeginsWord text word = (more : List ℕ) × IsWord (text ++ more) × (word ≡ word_of (text ++ more))

-- a text of at most sixteen bytes, and the number that they make
pub record IsBlock (text : List ℕ) (block : ℕ) : Type 0 where
  pub short : length text ≤ 16
  pub bytes : Each1 (λ b. b < 256) text
  pub makes : block ≡ word_of text

-- what a digit is worth; no other byte is worth less than ten
abbrev pub worth : ℕ → ℕ
worth b = bit_xor b (byte "0")

abbrev pub is_worth_of_digit : ℕ → Bool
is_worth_of_digit d = nat_lt d 10

-- the number that worths of digits spell in base ten
abbrev pub spelled : List ℕ → ℕ
spelled [] = 0
spelled (d ∷ ds) = d * 10 ^ length ds + spelled ds

-- the number of two digits that each worth and the one behind it spell, as if a zero stood behind the last
abbrev pub pairs_of : List ℕ → List ℕ
pairs_of [] = []
pairs_of (d ∷ []) = d * 10 ∷ []
pairs_of (d ∷ e ∷ ds) = (d * 10 + e) ∷ pairs_of (e ∷ ds)

-- in a picture, the byte that is worth nothing in a place: the digit 0, or the mark that stands there
abbrev pub naught_of : ℕ → ℕ
naught_of p = if p == byte "#" then byte "0" else p

-- what carries a worth into the upper half of its byte: that of no digit, and that of no mark
abbrev pub carry_of : ℕ → ℕ
carry_of p = if p == byte "#" then 6 else 15

-- what the bytes of a text are worth by a picture
abbrev pub worths_by : List ℕ → List ℕ → List ℕ
worths_by [] text = []
worths_by (p ∷ picture) [] = []
worths_by (p ∷ picture) (t ∷ text) = bit_xor t (naught_of p) ∷ worths_by picture text

-- a picture of eight bytes as two words
pub record IsPicture (picture : List ℕ) (naughts carries : ℕ) : Type 0 where
  pub is_word : IsWord picture
  pub has_naughts : naughts ≡ word_of (map naught_of picture)
  pub has_carries : carries ≡ word_of (map carry_of picture)
