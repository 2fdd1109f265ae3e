-- Why a value isn't allowed.
use Rattle.std.specs.Prelude.{◌≡◌, ℕ, ◌+◌, ◌<◌, Bool, true, false, List, [], length, map, drop, slice_get, Option, Some, None, ⊤}
use Rattle.std.specs.Option.{is_some, option_map}
use Rattle.std.specs.Str.{byte}
use Rattle.value_types.specs.TypeName.{type_named}
use Rattle.csv_source.specs.Lists.{is_empty}
use Rattle.load_options.specs.declared.reason.Reason.{Reason}
use Rattle.load_options.specs.declared.reason.Reason.TheVariants.{TooMany, Empty, Twice, NoType, Other}
use Rattle.load_options.specs.declared.table.Allowed.{Allowed}
use Rattle.load_options.specs.declared.table.Allowed.TheVariants as allowed
use Rattle.load_options.specs.ColumnTypes.{pair_name, pair_type}
use Rattle.load_options.specs.Texts.{is_among, pieces_at}

-- a reason is there exactly where a value isn't allowed, and it is true of the value
abbrev pub Explains : Option Reason → Bool → (Reason → Type 0) → Type 0
Explains None allowed IsTrueOf = allowed ≡ true
Explains (Some reason) allowed IsTrueOf = (allowed ≡ false) × IsTrueOf reason

-- the text of a place is empty, comes again behind it, names no type
abbrev pub IsEmptyAt : List (List ℕ) → ℕ → Type 0
IsEmptyAt texts place = option_map is_empty (slice_get texts place) ≡ Some true

abbrev pub IsTwiceAt : List (List ℕ) → ℕ → Type 0
IsTwiceAt texts place = option_map (is_among (drop (place + 1) texts)) (slice_get texts place) ≡ Some true

abbrev pub IsNoTypeAt : List (List ℕ) → ℕ → Type 0
IsNoTypeAt texts place = option_map (λ text. is_some (type_named text)) (slice_get texts place) ≡ Some false

-- what a reason says of so many pieces, with these names and types in them
abbrev pub SaysOf : ℕ → List (List ℕ) → List (List ℕ) → Reason → Type 0
SaysOf count names types (TooMany most) = most < count
SaysOf count names types (Empty place) = IsEmptyAt names place
SaysOf count names types (Twice place) = IsTwiceAt names place
SaysOf count names types (NoType place) = IsNoTypeAt types place
SaysOf count names types Other = ⊤

abbrev pub SaysOfNames : List (List ℕ) → Reason → Type 0
SaysOfNames names = SaysOf (length names) names []

abbrev pub SaysOfTypes : List (List ℕ) → Reason → Type 0
SaysOfTypes types = SaysOf (length types) [] types

abbrev pub SaysOfPairs : List (List ℕ) → Reason → Type 0
SaysOfPairs pairs = SaysOf (length pairs) (map pair_name pairs) (map pair_type pairs)

-- what a reason says of an option's text
abbrev pub SaysOfText : Allowed → List ℕ → Reason → Type 0
SaysOfText allowed.Delim text reason = reason ≡ Other
SaysOfText allowed.Choice text reason = reason ≡ Other
SaysOfText allowed.Truth text reason = reason ≡ Other
SaysOfText (allowed.Number range) text reason = reason ≡ Other
SaysOfText allowed.Text text reason = reason ≡ Other
SaysOfText allowed.Names text reason = SaysOfNames (pieces_at (byte ",") text) reason
SaysOfText allowed.Types text reason = SaysOfTypes (pieces_at (byte ",") text) reason
SaysOfText allowed.ColumnTypes text reason = SaysOfPairs (pieces_at (byte ",") text) reason
SaysOfText allowed.Nulls text reason = SaysOfNames (pieces_at (byte ",") text) reason
SaysOfText allowed.Format text reason = reason ≡ Other
SaysOfText allowed.TableName text reason = reason ≡ Other
SaysOfText allowed.FileName text reason = reason ≡ Other
