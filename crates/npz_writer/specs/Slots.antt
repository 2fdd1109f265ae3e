-- Arrays by their places in sheets.
use Rattle.std.specs.Prelude.{◌≡◌, ◌<◌, ℕ, List, [], ◌++◌, length, flat_map, map, IfSome, None}
use Rattle.std.specs.List.{range_with_len, slice_index_or}
use Rattle.value_types.specs.declared.types.ColumnType.{ColumnType}
use Rattle.value_types.specs.declared.types.ColumnType.TheVariants.{Varchar}
use Rattle.value_types.specs.Datum.{Datum}
use Rattle.column_store.specs.TableView.{column_of}
use Rattle.zip_archive.specs.Archive.{Member, entry_of}
use Rattle.zip_archive.specs.Crc.{crc32}
use Rattle.zip_archive.specs.Headers.{local_header}
use Rattle.npz_writer.specs.declared.part.Part.{Part}
use Rattle.npz_writer.specs.declared.array.Array.{Array}
use Rattle.npz_writer.specs.declared.measure.Measure.{Measure}
use Rattle.npz_writer.specs.declared.slots.Slot.{Slot}
use Rattle.npz_writer.specs.declared.fronts.Front.{Front}
use Rattle.npz_writer.specs.Arrays.{array_bytes, element_count, element_kind, parts_of}
use Rattle.npz_writer.specs.Npy.{npy_head}
use Rattle.npz_writer.specs.Sheets.{SheetView, member_of}

-- ---- a column of a sheet

abbrev pub key_at : SheetView → ℕ → List ℕ
key_at sheet column = slice_index_or sheet.keys column []

abbrev pub type_at : SheetView → ℕ → ColumnType
type_at sheet column = slice_index_or sheet.types column Varchar

abbrev pub cells_at : SheetView → ℕ → List Datum
cells_at sheet column = column_of sheet.rows column

-- ---- an array of a column

-- how many elements it has
abbrev pub count_at : SheetView → ℕ → Part → ℕ
count_at sheet column part = element_count (type_at sheet column) part (cells_at sheet column)

abbrev pub bytes_at : SheetView → ℕ → Part → List ℕ
bytes_at sheet column part = array_bytes (type_at sheet column) part (cells_at sheet column)

-- what stands before its bytes in its file
abbrev pub head_at : SheetView → ℕ → Part → List ℕ
head_at sheet column part = npy_head (element_kind (type_at sheet column) part) (count_at sheet column part)

abbrev pub member_at : SheetView → ℕ → Part → Member
member_at sheet column part = member_of (key_at sheet column) (type_at sheet column) (cells_at sheet column) part

-- what is measured of its file
pub record IsMeasure (member : Member) (elements : ℕ) (m : Measure) : Type 0 where
  pub count : m.count ≡ elements
  pub length : m.length ≡ length member.bytes
  pub crc : m.crc ≡ crc32 member.bytes

-- ---- an array of a column of one of several sheets

abbrev pub no_sheet : SheetView
no_sheet = record { keys = []; types = []; rows = [] }

abbrev pub sheet_at : List SheetView → ℕ → SheetView
sheet_at sheets number = slice_index_or sheets number no_sheet

-- there is such a column
pub record IsWithin (sheets : List SheetView) (array : Array) : Type 0 where
  pub sheet : array.sheet < length sheets
  pub column : array.column < length (sheet_at sheets array.sheet).types

module _ (sheets : List SheetView) where
  abbrev pub member_in : Array → Member
  member_in array = member_at (sheet_at sheets array.sheet) array.column array.part

  abbrev pub bytes_in : Array → List ℕ
  bytes_in array = bytes_at (sheet_at sheets array.sheet) array.column array.part

  -- what is known of an array is right
  pub record IsReady (slot : Slot) : Type 0 where
    pub within : IsWithin sheets slot.array
    pub measure : IfSome slot.measure (IsMeasure (member_in slot.array) (count_at (sheet_at sheets slot.array.sheet) slot.array.column slot.array.part))

  -- an array is measured
  pub record IsMeasured (old new : Slot) : Type 0 where
    pub array : new.array ≡ old.array
    pub measure : IfSome new.measure (IsMeasure (member_in old.array) (count_at (sheet_at sheets old.array.sheet) old.array.column old.array.part))

  -- what stands before its bytes in the archive
  abbrev pub front_in : Array → Front
  front_in array = record {
    array = array;
    bytes = local_header (entry_of (member_in array)) ++ head_at (sheet_at sheets array.sheet) array.column array.part;
  }

  abbrev pub front_text : Front → List ℕ
  front_text front = front.bytes ++ bytes_in front.array

-- ---- all arrays

-- an array that isn't measured yet
abbrev pub slot_of : ℕ → ℕ → Part → Slot
slot_of sheet column part = record { array = record { sheet = sheet; column = column; part = part }; measure = None }

-- the arrays of a column
abbrev pub column_slots : ℕ → SheetView → ℕ → List Slot
column_slots number sheet column = map (slot_of number column) (parts_of (type_at sheet column) (cells_at sheet column))

abbrev pub sheet_slots : List SheetView → ℕ → List Slot
sheet_slots sheets number = let sheet = sheet_at sheets number in flat_map (column_slots number sheet) (range_with_len 0 (length sheet.types))

abbrev pub slots_of : List SheetView → List Slot
slots_of sheets = flat_map (sheet_slots sheets) (range_with_len 0 (length sheets))
