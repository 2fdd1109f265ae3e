-- The bytes that may stand in the plain form of a type's values: all that a dialect must leave without a meaning so that such a value
-- stands in its row as it is.
use Rattle.std.specs.Prelude.{◌≡◌, ◌<◌, ℕ, ◌||◌, ◌==◌, Bool, true, false, List, length, slice_range}
use Rattle.std.specs.List.{list_all}
use Rattle.std.specs.Option.{is_some}
use Rattle.std.specs.Char.{is_ascii_digit, is_ascii_alphabetic}
use Rattle.std.specs.Str.{byte}
use Rattle.value_types.specs.declared.types.ColumnType.{ColumnType}
use Rattle.value_types.specs.declared.types.ColumnType.TheVariants as types
use Rattle.value_types.specs.Digits.{is_numeral}
use Rattle.value_types.specs.OfType.{typed_cell}

-- a digit, or a colon or point between some
abbrev pub is_clock_byte : ℕ → Bool
is_clock_byte b = is_ascii_digit b || (b == byte ":") || (b == byte ".")

-- a byte of a date or a time, or one that stands between the two
abbrev pub is_stamp_byte : ℕ → Bool
is_stamp_byte b = is_clock_byte b || (b == byte "-") || (b == byte " ") || (b == byte "T")

-- a byte of a plain value of the type; a text has no plain form
abbrev pub is_plain : ColumnType → ℕ → Bool
is_plain types.Boolean b = is_ascii_alphabetic b
is_plain types.Bigint b = is_numeral b
is_plain types.Date b = is_numeral b
is_plain types.Time b = is_clock_byte b
is_plain types.Timestamp b = is_stamp_byte b
is_plain types.Varchar b = false

-- a plain value of the type stands between two places, and bytes follow it
pub record IsPlainAt (ty : ColumnType) (bytes : List ℕ) (from end : ℕ) : Type 0 where
  pub low : from < end
  pub high : end < length bytes
  pub plain : list_all (is_plain ty) (slice_range bytes from end) ≡ true
  pub spelled : is_some (typed_cell (slice_range bytes from end) ty) ≡ true
