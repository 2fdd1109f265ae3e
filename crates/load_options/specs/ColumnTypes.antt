-- Words that give the types of single columns by their names (this loader's profile).
use Rattle.std.specs.Prelude.{ℕ, ◌&&◌, nat_le, Bool, List, [], length, map, unwrap_or}
use Rattle.std.specs.Option.{is_some}
use Rattle.std.specs.List.{list_all, filter_map}
use Rattle.std.specs.Path.{rsplit_once}
use Rattle.std.specs.Str.{byte}
use Rattle.value_types.specs.TypeName.{type_named}
use Rattle.load_options.specs.declared.limits.TheConstants.{COLUMN_TYPES_LIMIT}
use Rattle.load_options.specs.declared.options.ColumnTypes.{ColumnTypes}
use Rattle.load_options.specs.Texts.{are_names, pieces_at}

-- the name and the type of a pair, which is cut at its last colon; all of it is the name where it has none
abbrev pub cut_pair : List ℕ → List ℕ × List ℕ
cut_pair pair = unwrap_or (rsplit_once (byte ":") pair) (pair, [])

abbrev pub pair_name : List ℕ → List ℕ
pair_name pair = (cut_pair pair).0

abbrev pub pair_type : List ℕ → List ℕ
pair_type pair = (cut_pair pair).1

-- pairs of a name and a type: not too many, each of a type, their names as names of columns are
abbrev pub are_typed_columns : List (List ℕ) → Bool
are_typed_columns pairs =
    nat_le (length pairs) COLUMN_TYPES_LIMIT && list_all (λ name. is_some (type_named name)) (map pair_type pairs) && are_names (map pair_name pairs)

-- such pairs, cut at each comma
abbrev pub is_typed_list : List ℕ → Bool
is_typed_list text = are_typed_columns (pieces_at (byte ",") text)

-- the names of pairs, and their types
abbrev pub typed_columns : List (List ℕ) → ColumnTypes
typed_columns pairs = record { names = map pair_name pairs; types = filter_map type_named (map pair_type pairs) }
