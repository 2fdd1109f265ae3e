-- Types that stay possible for a column.
use Rattle.std.specs.Prelude.{ℕ, ◌&&◌, ◌||◌, not, nat_le, Bool, List, length}
use Rattle.std.specs.Char.{is_ascii_digit}
use Rattle.std.specs.List.{list_all}
use Rattle.value_types.specs.declared.types.ColumnType.{ColumnType}
use Rattle.value_types.specs.declared.types.ColumnType.TheVariants as types
use Rattle.value_types.specs.OfType.{is_of_type}
use Rattle.value_types.specs.Plain.{is_plain}
use Rattle.value_types.specs.declared.possible_types.PossibleTypes.{PossibleTypes}

-- whether a type stays as possible as it was with one value more
abbrev pub keeps_type : Bool → List ℕ → ColumnType → Bool
keeps_type possible text ty = not possible || is_of_type text ty

-- whether there is a value, and each type stays so
abbrev pub keeps : PossibleTypes → List ℕ → Bool
keeps possible text =
    possible.some_value && keeps_type possible.boolean text types.Boolean && keeps_type possible.bigint text types.Bigint
    && keeps_type possible.time text types.Time
    && (keeps_type possible.date text types.Date && keeps_type possible.timestamp text types.Timestamp)

-- whether there is a value, and no type but VARCHAR is possible
abbrev pub is_settled : PossibleTypes → Bool
is_settled possible =
    possible.some_value && not (possible.boolean || possible.bigint || possible.date || possible.time || possible.timestamp)

-- whether a text is digits, at least one and so few that no number of them is too great
abbrev pub is_plain_number : List ℕ → Bool
is_plain_number text = nat_le 1 (length text) && nat_le (length text) 18 && list_all is_ascii_digit text

-- whether there is a value, BIGINT alone is possible but for VARCHAR, and the text is such a number
abbrev pub keeps_number : PossibleTypes → List ℕ → Bool
keeps_number possible text =
    possible.some_value && possible.bigint && not (possible.boolean || possible.date || possible.time || possible.timestamp)
    && is_plain_number text

-- whether a byte may stand in a plain value of a type
abbrev pub is_value_byte : ℕ → Bool
is_value_byte b = is_plain types.Timestamp b || is_plain types.Boolean b
