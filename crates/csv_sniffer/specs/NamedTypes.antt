-- Types that are given to columns by their names (this loader's profile).
use Rattle.std.specs.Prelude.{◌≡◌, ℕ, not, List, [], ◌∷◌, Option, slice_get, option_and_then, unwrap_or}
use Rattle.std.specs.Option.{is_some}
use Rattle.std.specs.List.{find, position_from}
use Rattle.std.specs.Map.{lookup}
use Rattle.std.specs.Str.{bytes_eq}
use Rattle.value_types.specs.declared.types.ColumnType.{ColumnType}
use Rattle.load_options.specs.declared.options.ColumnTypes.{ColumnTypes}

-- the place of a name among some, from 0
abbrev pub place_of : List (List ℕ) → List ℕ → Option ℕ
place_of names name = position_from (bytes_eq name) 0 names

-- what is noted for each key is the place of its text among some names
abbrev pub ArePlaces : {K : Type 0} → List (List ℕ) → List (K × ℕ) → (K → List ℕ) → Type 0
ArePlaces {K} names noted text = (key : K) → lookup (λ other. bytes_eq (text key) (text other)) noted ≡ place_of names (text key)

-- the type that is given to columns of a name
abbrev pub type_given : ColumnTypes → List ℕ → Option ColumnType
type_given given name = option_and_then (slice_get given.types) (place_of given.names name)

-- the types of columns of these names: each the one that is given to its name, else the one found
abbrev pub types_by_name : ColumnTypes → List (List ℕ) → List ColumnType → List ColumnType
types_by_name given [] found = found
types_by_name given (name ∷ names) [] = []
types_by_name given (name ∷ names) (ty ∷ found) = unwrap_or (type_given given name) ty ∷ types_by_name given names found

-- the first name of given types that no column has
abbrev pub missing_name : ColumnTypes → List (List ℕ) → Option (List ℕ)
missing_name given names = find (λ name. not (is_some (place_of names name))) given.names
