-- Rows whose fields are found and cast by one look, each behind the last one's delimiter.
use Rattle.std.specs.Prelude.{◌≡◌, ◌≢◌, ◌<◌, ◌≤◌, ℕ, Bool, true, false, List, [], ◌∷◌, ◌++◌, length, map, All, IfSome, Some, None, Option, slice_index, slice_range, if◌then◌else◌, ◌==◌, ⊤}
use Rattle.std.specs.List.{list_any}
use Rattle.byte_classes.specs.Class.{class_of}
use Rattle.byte_classes.specs.Special.{is_special}
use Rattle.quote_automaton.specs.RowEnd.{row_len}
use Rattle.row_fields.specs.declared.span.Span.{Span}
use Rattle.row_fields.specs.Fields.{Field, fields, flaw}
use Rattle.row_fields.specs.Plain.{LeavesPlain}
use Rattle.row_fields.specs.Reading.{EndsWell, HasRead, field_of}
use Rattle.row_fields.specs.Split.{field_in, row_from}
use Rattle.value_types.specs.declared.types.ColumnType.{ColumnType}
use Rattle.value_types.specs.declared.types.ColumnType.TheVariants.{Bigint, Varchar}
use Rattle.value_types.specs.declared.fronts.number.FrontNumber.{FrontNumber}
use Rattle.value_types.specs.declared.types.Value.TheVariants.{Int}
use Rattle.value_types.specs.Datum.{Datum, null, text, typed}
use Rattle.value_types.specs.Null.{is_null}
use Rattle.value_types.specs.OfType.{typed_cell}
use Rattle.value_types.specs.Plain.{is_plain, IsPlainAt}
use Rattle.column_store.specs.ChunkView.{ChunkView}
use Rattle.column_store.specs.RowsOfColumns.{HasNoTexts}
use Rattle.reject_book.specs.declared.reject.Schema.{Schema}
use Rattle.reject_book.specs.Casting.{cell_at, null_texts}
use Rattle.range_scan.specs.declared.context.Context.{Context}
use Rattle.range_scan.specs.declared.fast_rows.kinds.FastRows.{FastRows}
use Rattle.range_scan.specs.declared.fast_rows.kinds.FastRows.TheVariants.{Never, Numbers, Values, Texts}

-- a byte of a plain value of one of the types
abbrev pub is_plain_in : List ColumnType → ℕ → Bool
is_plain_in types b = list_any (λ ty. is_plain ty b) types

-- whether a text begins with such a byte
abbrev pub begins_plain : (ℕ → Bool) → List ℕ → Bool
begins_plain p [] = false
begins_plain p (b ∷ bytes) = p b

-- whether a byte stands in a text
abbrev pub has_byte : ℕ → List ℕ → Bool
has_byte byte bytes = list_any (λ b. b == byte) bytes

-- there are columns, and to a byte of a plain value of theirs neither the dialect nor a text that stands for null gives a meaning
pub record HoldsPlain (context : Context) : Type 0 where
  pub some : 1 ≤ length context.schema.types
  pub leaves : LeavesPlain (is_plain_in context.schema.types) context.dialect
  pub null : list_any (begins_plain (is_plain_in context.schema.types)) (null_texts context.schema) ≡ false

-- and no quote stands in a text that stands for null
pub record HoldsFields (context : Context) : Type 0 where
  pub plain : HoldsPlain context
  pub quote : IfSome context.dialect.quote (λ q. list_any (has_byte q) (null_texts context.schema) ≡ false)

-- and all columns are BIGINT
pub record HoldsNumbers (context : Context) : Type 0 where
  pub fields : HoldsFields context
  pub types : All (λ ty. ty ≡ Bigint) context.schema.types

-- as what the rows of a file may be tried
abbrev pub IsKindOf : Context → FastRows → Type 0
IsKindOf context Never = ⊤
IsKindOf context Numbers = HoldsNumbers context
IsKindOf context Values = HoldsFields context × HasNoTexts context.schema.types
IsKindOf context Texts = HoldsFields context

-- the cell of a text, by whether it stands between quotes
abbrev pub text_cell : Schema → Bool → List ℕ → Datum
text_cell schema quoted value = if is_null (null_texts schema) schema.allow_quoted_nulls quoted value then null else text value

-- a plain number stands from a place on, and bytes follow it
pub record IsNumberAt (bytes : List ℕ) (from : ℕ) (front : FrontNumber) : Type 0 where
  pub at : IsPlainAt Bigint bytes from front.end
  pub value : typed_cell (slice_range bytes from front.end) Bigint ≡ Some (typed (Int front.number))

-- the field between two places, whose cell in a column of this type is this one
pub record IsField (context : Context) (ty : ColumnType) (bytes : List ℕ) (from end : ℕ) (cell : Datum) : Type 0 where
  pub well : EndsWell context.dialect bytes from end
  pub casts : cell_at context.schema ty (Some (field_of context.dialect from (slice_range bytes from end))) ≡ Some cell

-- a cell is pushed, of the field that ends at a place if a byte stands there that ends fields
pub record IsFieldPushed (context : Context) (ty : ColumnType) (bytes : List ℕ) (from : ℕ) (old new : ChunkView) (end : ℕ) : Type 0 where
  pub low : from ≤ end
  pub high : end < length bytes
  pub cell : Datum
  pub pushed : new ≡ record old { unfinished = old.unfinished ++ cell ∷ [] }
  pub is : is_special false (class_of context.dialect (slice_index bytes end)) ≡ true → IsField context ty bytes from end cell
  pub ascii : ty ≢ Varchar → (k : ℕ) → from ≤ k → k < end → slice_index bytes k < 128

-- only the row under way has changed
abbrev pub KeepsRows : ChunkView → ChunkView → Type 0
KeepsRows old new = new ≡ record old { unfinished = new.unfinished }

-- the cells of fields in the first columns
abbrev pub cells_in : Schema → List ColumnType → List Field → List (Option Datum)
cells_in schema [] fs = []
cells_in schema (ty ∷ tys) [] = []
cells_in schema (ty ∷ tys) (f ∷ fs) = cell_at schema ty (Some f) ∷ cells_in schema tys fs

-- the bytes up to a place are fields with these cells
pub record HasFields (context : Context) (bytes : List ℕ) (from : ℕ) (cells : List Datum) : Type 0 where
  pub spans : List Span
  pub texts : List ℕ
  pub read : HasRead context.dialect bytes from spans texts
  pub count : length spans ≡ length cells
  pub are : cells_in context.schema context.schema.types (map (field_in bytes texts) spans) ≡ map Some cells
  pub ascii : HasNoTexts context.schema.types → (k : ℕ) → k < from → slice_index bytes k < 128

-- the row at the front of the bytes ends at a place, and its fields have these cells
pub record IsFastRow (context : Context) (bytes : List ℕ) (cells : List Datum) (end : ℕ) : Type 0 where
  pub is_len : end ≡ row_len context.dialect bytes 0
  pub within : end ≤ length bytes
  pub ascii : HasNoTexts context.schema.types → (k : ℕ) → k < end → slice_index bytes k < 128
  pub flawless : flaw context.dialect (row_from context.dialect bytes 0) ≡ None
  pub count : length (fields context.dialect (row_from context.dialect bytes 0)) ≡ length cells
  pub are : cells_in context.schema context.schema.types (fields context.dialect (row_from context.dialect bytes 0)) ≡ map Some cells
