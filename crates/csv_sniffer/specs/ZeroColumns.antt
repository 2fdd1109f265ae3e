-- Columns of numbers that would lose leading zeros (this loader's profile).
use Rattle.std.specs.Prelude.{ℕ, ◌==◌, ◌&&◌, min, Bool, false, List, [], ◌∷◌, length, map, slice_index_or}
use Rattle.std.specs.List.{list_any, range_with_len}
use Rattle.std.specs.Option.{option_map_or}
use Rattle.std.specs.Char.{is_ascii_digit}
use Rattle.std.specs.Str.{byte}
use lib.Lanes.{mask_l}
use Rattle.byte_classes.specs.Dialect.{Marks}
use Rattle.row_fields.specs.Fields.{Field}
use Rattle.value_types.specs.declared.types.ColumnType.{ColumnType}
use Rattle.value_types.specs.declared.types.ColumnType.TheVariants as types
use Rattle.value_types.specs.OfType.{same_type}
use Rattle.load_options.specs.declared.options.Options.{Options}
use Rattle.csv_sniffer.specs.PossibleTypes.{agreeing, column_value}
use Rattle.csv_sniffer.specs.declared.zero_columns.TheConstants.{ZERO_COLUMNS}

-- whether a text begins with a zero and one more digit
abbrev pub has_leading_zero : List ℕ → Bool
has_leading_zero [] = false
has_leading_zero (a ∷ []) = false
has_leading_zero (a ∷ b ∷ text) = (a == byte "0") && is_ascii_digit b

-- whether a column is one of numbers, and its value in a row begins so
abbrev pub has_zero_at : Options → List ColumnType → List Field → ℕ → Bool
has_zero_at o tys row column =
    same_type (slice_index_or tys column types.Varchar) types.Bigint && option_map_or has_leading_zero (column_value o row column) false

-- whether a column would lose leading zeros of some row that agrees
abbrev pub loses_zeros_at : Options → Marks → List ColumnType → List (List ℕ) → ℕ → Bool
loses_zeros_at o d tys rows column = list_any (λ row. has_zero_at o tys row column) (agreeing d (length tys) rows)

-- the same of each of the first columns
abbrev pub zero_flags : Options → Marks → List ColumnType → List (List ℕ) → List Bool
zero_flags o d tys rows = map (loses_zeros_at o d tys rows) (range_with_len 0 (min (length tys) ZERO_COLUMNS))

-- and as bits, of which the lowest is the first column's
abbrev pub zero_columns : Options → Marks → List ColumnType → List (List ℕ) → ℕ
zero_columns o d tys rows = mask_l (zero_flags o d tys rows)
