-- The cells of good rows fit their columns, and some text spells each value.
use Rattle.std.proofs.Common.{◌≡◌, ℕ, Bool, true, false, cond, List, [], ◌∷◌, map, Option, Some, None, refl, sym, subst}
use Rattle.std.specs.Prelude.{◌&&◌, All}
use Rattle.std.specs.Option.{option_map_or}
use Rattle.std.proofs.lemmas.List.Concat.{flat_map-cons}
use Rattle.std.proofs.lemmas.List.Elements.{All-nil, All-cons, All-append}
use Rattle.byte_classes.specs.Dialect.{Marks}
use Rattle.row_fields.specs.Fields.{Field, fields}
use Rattle.value_types.specs.declared.types.ColumnType.{ColumnType}
use Rattle.value_types.specs.declared.types.ColumnType.TheVariants as types
use Rattle.value_types.specs.declared.types.Value.{Value}
use Rattle.value_types.specs.Cast.{cast_of}
use Rattle.value_types.specs.Datum.{Datum, null, typed}
use Rattle.value_types.specs.OfType.{type_of_value, same_type, fits, fit_all}
use Rattle.value_types.specs.Spelled.{IsSpelled, IsSpelledCell}
use Rattle.value_types.proofs.SpelledParts.{type_of_cast}
use Rattle.load_options.specs.declared.options.Options.{Options}
use Rattle.reject_book.specs.declared.reject.Reject.{Reject}
use Rattle.reject_book.specs.declared.reject.RowPlace.{RowPlace}
use Rattle.reject_book.specs.declared.reject.Schema.{Schema}
use Rattle.reject_book.specs.Fault.{is_null_field, row_fault, cast_faults}
use Rattle.reject_book.specs.Judging.{cell_of_value, cell_of_field, cells_of_fields, good_unless, faulty_or, is_blank, verdict_of}
use Rattle.reject_book.specs.Verdict.{Verdict, Blank, cells_of}
use Rattle.csv_sniffer.specs.declared.found.Sniffed.{Sniffed}
use Rattle.csv_sniffer.specs.Input.{place_under}
use Rattle.loader_reply.specs.Reading.{schema_of, verdict_at, file_reading, table_rows}

-- a cell fits its column and is spelled
abbrev IsCellOf : ColumnType → Datum → Type 0
IsCellOf ty cell = (fits ty cell ≡ true) × IsSpelledCell cell

-- the cells of a row fit the columns and are spelled
abbrev pub IsRowOf : List ColumnType → List Datum → Type 0
IsRowOf tys cells = (fit_all tys cells ≡ true) × All IsSpelledCell cells

same_itself : (ty : ColumnType) → same_type ty ty ≡ true
same_itself types.Boolean = refl
same_itself types.Bigint = refl
same_itself types.Date = refl
same_itself types.Time = refl
same_itself types.Timestamp = refl
same_itself types.Varchar = refl

cast_cell : (ty : ColumnType) (o : Option Value) → ((v : Value) → o ≡ Some v → IsSpelled v × (type_of_value v ≡ ty)) → IsCellOf ty (option_map_or typed o null)
cast_cell ty None told = (refl, tt)
cast_cell ty (Some v) told = let is = told v refl in (subst (λ t. same_type ty t ≡ true) (sym is.1) (same_itself ty), is.0)

spelled : (value : List ℕ) (ty : ColumnType) → IsCellOf ty (option_map_or typed (cast_of value ty) null)
spelled value ty = cast_cell ty (cast_of value ty) (λ v is. ((value, ty, is), type_of_cast value ty v is))

value_cell : (value : List ℕ) (ty : ColumnType) → IsCellOf ty (cell_of_value value ty)
value_cell value types.Boolean = spelled value types.Boolean
value_cell value types.Bigint = spelled value types.Bigint
value_cell value types.Date = spelled value types.Date
value_cell value types.Time = spelled value types.Time
value_cell value types.Timestamp = spelled value types.Timestamp
value_cell value types.Varchar = (refl, tt)

field_cell : (schema : Schema) (ty : ColumnType) (f : Field) → IsCellOf ty (cell_of_field schema ty f)
field_cell schema ty f = by_null (is_null_field schema f) where
  by_null : (t : Bool) → IsCellOf ty (cond t null (cell_of_value f.value ty))
  by_null true = (refl, tt)
  by_null false = value_cell f.value ty

cells_more : (ty : ColumnType) (tys : List ColumnType) (cell : Datum) (cells : List Datum) → IsCellOf ty cell → IsRowOf tys cells → IsRowOf (ty ∷ tys) (cell ∷ cells)
cells_more ty tys cell cells one others = ((λ i. one.0 i && others.0 i), All-cons IsSpelledCell cell cells one.1 others.1)

row_cells : (schema : Schema) (tys : List ColumnType) (fs : List Field) → IsRowOf tys (cells_of_fields schema tys fs)
row_cells schema [] fs = (refl, All-nil IsSpelledCell)
row_cells schema (ty ∷ tys) [] = cells_more ty tys null (cells_of_fields schema tys []) (refl, tt) (row_cells schema tys [])
row_cells schema (ty ∷ tys) (f ∷ fs) = cells_more ty tys (cell_of_field schema ty f) (cells_of_fields schema tys fs) (field_cell schema ty f) (row_cells schema tys fs)

good_cells : (tys : List ColumnType) (blank : Bool) (fault : Option Reject) (cells : List Datum) (rejects : List Reject) → IsRowOf tys cells
    → All (IsRowOf tys) (cells_of (cond blank Blank (faulty_or (good_unless cells rejects) fault)))
good_cells tys true fault cells rejects row = All-nil (IsRowOf tys)
good_cells tys false (Some fault) cells rejects row = All-nil (IsRowOf tys)
good_cells tys false None cells [] row = All-cons (IsRowOf tys) cells [] row (All-nil (IsRowOf tys))
good_cells tys false None cells (reject ∷ rejects) row = All-nil (IsRowOf tys)

verdict_cells : (d : Marks) (schema : Schema) (place : RowPlace) (row : List ℕ) → All (IsRowOf schema.types) (cells_of (verdict_of d schema place row))
verdict_cells d schema place row =
    good_cells schema.types (is_blank schema row) (row_fault d schema place row) (cells_of_fields schema schema.types (fields d row))
    (cast_faults d schema place row 1 schema.types (fields d row)) (row_cells schema schema.types (fields d row))

all_cells : (tys : List ColumnType) (verdict : ℕ → Verdict (List Datum) Reject) → ((p : ℕ) → All (IsRowOf tys) (cells_of (verdict p))) → (starts : List ℕ)
    → All (IsRowOf tys) (table_rows (map verdict starts))
all_cells tys verdict each [] = All-nil (IsRowOf tys)
all_cells tys verdict each (p ∷ starts) =
    subst (All (IsRowOf tys)) (sym (flat_map-cons cells_of (verdict p) (map verdict starts)))
    (All-append (IsRowOf tys) (cells_of (verdict p)) (table_rows (map verdict starts)) (each p) (all_cells tys verdict each starts))

-- the rows of the table of a file
pub file_prints : (o : Options) (s : Sniffed) (file_id : ℕ) (input : List ℕ) → All (IsRowOf s.types) (table_rows (file_reading o s file_id input))
file_prints o s file_id input =
    all_cells s.types (verdict_at file_id s.dialect (schema_of o s) input (place_under o s input))
    (λ p. verdict_cells s.dialect (schema_of o s) _ _) _
