-- The arrays of a column (NumPy's manual, "Data type objects" and "Datetimes and Timedeltas"; how texts and nulls are kept is this writer's profile).
use Rattle.std.specs.Prelude.{ℕ, ◌+◌, ℤ, pos, negsuc, Bool, true, false, if◌then◌else◌, List, [], ◌∷◌, ◌++◌, codes, flat_map, length, map}
use Rattle.std.specs.Int.{w64, cast_unsigned, to_le_bytes}
use Rattle.std.specs.List.{list_any}
use Rattle.value_types.specs.declared.types.ColumnType.{ColumnType}
use Rattle.value_types.specs.declared.types.ColumnType.TheVariants as types
use Rattle.value_types.specs.declared.types.Value.{Value}
use Rattle.value_types.specs.declared.types.Value.TheVariants as values
use Rattle.value_types.specs.Datum.{Datum, null, typed, text}
use Rattle.npz_writer.specs.declared.part.Part.{Part}
use Rattle.npz_writer.specs.declared.part.Part.TheVariants.{Values, Ends, Nulls}

-- ---- elements

-- a number with a sign in eight bytes, the lowest first
unfoldable pub number_bytes : ℤ → List ℕ
number_bytes n = to_le_bytes w64 (cast_unsigned w64 n)

abbrev pub truth_byte : Bool → ℕ
truth_byte truth = if truth then 1 else 0

-- what NumPy reads as no date and no time: -2^63
abbrev pub not_a_time : ℤ
not_a_time = negsuc 9_223_372_036_854_775_807

-- a truth in a byte; a number, the days or the microseconds of a date or a time in eight
abbrev pub value_bytes : Value → List ℕ
value_bytes (values.Bool b) = truth_byte b ∷ []
value_bytes (values.Int n) = number_bytes n
value_bytes (values.Date day) = number_bytes day
value_bytes (values.Time micros) = number_bytes micros
value_bytes (values.Stamp micros) = number_bytes micros

-- what stands for a null cell of a type: False, 0, no date or time, no byte
abbrev pub null_bytes : ColumnType → List ℕ
null_bytes types.Boolean = truth_byte false ∷ []
null_bytes types.Bigint = number_bytes (pos 0)
null_bytes types.Date = number_bytes not_a_time
null_bytes types.Time = number_bytes not_a_time
null_bytes types.Timestamp = number_bytes not_a_time
null_bytes types.Varchar = []

abbrev pub cell_bytes : ColumnType → Datum → List ℕ
cell_bytes ty null = null_bytes ty
cell_bytes ty (typed value) = value_bytes value
cell_bytes ty (text bytes) = bytes

-- ---- texts and nulls

-- the text of a cell: a null one has no byte
abbrev pub text_in : Datum → List ℕ
text_in null = []
text_in (typed value) = []
text_in (text bytes) = bytes

-- where the texts of cells end among all of them, the first of which begins at a place
abbrev pub ends_from : ℕ → List Datum → List ℕ
ends_from begin [] = []
ends_from begin (cell ∷ cells) = let end = begin + length (text_in cell) in end ∷ ends_from end cells

abbrev pub is_null : Datum → Bool
is_null null = true
is_null (typed value) = false
is_null (text bytes) = false

-- ---- arrays

-- the bytes of an array of a column's cells; its texts begin at a place
abbrev pub bytes_from : ColumnType → Part → ℕ → List Datum → List ℕ
bytes_from ty Values begin cells = flat_map (cell_bytes ty) cells
bytes_from ty Ends begin cells = flat_map (λ end. number_bytes (pos end)) (ends_from begin cells)
bytes_from ty Nulls begin cells = map (λ cell. truth_byte (is_null cell)) cells

unfoldable pub array_bytes : ColumnType → Part → List Datum → List ℕ
array_bytes ty part cells = bytes_from ty part 0 cells

-- how many elements it has: the values of texts are bytes
abbrev pub element_count : ColumnType → Part → List Datum → ℕ
element_count types.Varchar Values cells = length (array_bytes types.Varchar Values cells)
element_count ty part cells = length cells

-- the kind of its elements
abbrev pub value_kind : ColumnType → List ℕ
value_kind types.Boolean = codes "|b1"
value_kind types.Bigint = codes "<i8"
value_kind types.Date = codes "<M8[D]"
value_kind types.Time = codes "<m8[us]"
value_kind types.Timestamp = codes "<M8[us]"
value_kind types.Varchar = codes "|u1"

abbrev pub element_kind : ColumnType → Part → List ℕ
element_kind ty Values = value_kind ty
element_kind ty Ends = codes "<i8"
element_kind ty Nulls = codes "|b1"

-- what stands behind the column's key in its name
abbrev pub part_name : ColumnType → Part → List ℕ
part_name types.Varchar Values = codes ":bytes"
part_name ty Values = []
part_name ty Ends = codes ":ends"
part_name ty Nulls = codes ":null"

-- the arrays that a column has: values, the ends of texts, and where a cell is null its nulls
abbrev pub ends_parts : ColumnType → List Part
ends_parts types.Varchar = Ends ∷ []
ends_parts ty = []

abbrev pub null_parts : List Datum → List Part
null_parts cells = if list_any is_null cells then Nulls ∷ [] else []

abbrev pub parts_of : ColumnType → List Datum → List Part
parts_of ty cells = Values ∷ ends_parts ty ++ null_parts cells
