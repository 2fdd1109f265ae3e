-- The types that are still possible for some values (DuckDB's manual, "CSV Auto Detection").
use Rattle.std.specs.Prelude.{ℕ, ◌&&◌, not, true, if◌then◌else◌, List, Option, Some, None}
use Rattle.std.specs.List.{list_all}
use Rattle.csv_source.specs.Lists.{is_empty}
use Rattle.value_types.specs.declared.types.ColumnType.{ColumnType}
use Rattle.value_types.specs.declared.types.ColumnType.TheVariants as types
use Rattle.value_types.specs.declared.possible_types.PossibleTypes.{PossibleTypes}
use Rattle.value_types.specs.OfType.{is_of_type}

-- whether there is a value, and the types that all of some values have; VARCHAR is always one
abbrev pub possible_types : List (List ℕ) → PossibleTypes
possible_types values = record {
  some_value = not (is_empty values);
  boolean = list_all (λ text. is_of_type text types.Boolean) values;
  bigint = list_all (λ text. is_of_type text types.Bigint) values;
  date = list_all (λ text. is_of_type text types.Date) values;
  time = list_all (λ text. is_of_type text types.Time) values;
  timestamp = list_all (λ text. is_of_type text types.Timestamp) values;
}

-- the types that are possible with one value more
abbrev pub narrowed : PossibleTypes → List ℕ → PossibleTypes
narrowed possible text = record {
  some_value = true;
  boolean = possible.boolean && is_of_type text types.Boolean;
  bigint = possible.bigint && is_of_type text types.Bigint;
  date = possible.date && is_of_type text types.Date;
  time = possible.time && is_of_type text types.Time;
  timestamp = possible.timestamp && is_of_type text types.Timestamp;
}

-- the same, where a value may be null
abbrev pub narrowed_by : Option (List ℕ) → PossibleTypes → PossibleTypes
narrowed_by None possible = possible
narrowed_by (Some text) possible = narrowed possible text

-- the first possible type in the order of detection; VARCHAR where there is no value
abbrev pub first_possible : PossibleTypes → ColumnType
first_possible possible =
    if not possible.some_value then types.Varchar
    else (if possible.boolean then types.Boolean
    else (if possible.bigint then types.Bigint
    else (if possible.date then types.Date
    else (if possible.time then types.Time
    else (if possible.timestamp then types.Timestamp
    else types.Varchar)))))
