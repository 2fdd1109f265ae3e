-- Tables of an archive, and the files of their arrays (how they are named is this writer's profile).
use Rattle.std.specs.Prelude.{◌≡◌, ◌≤◌, ℕ, List, [], ◌++◌, codes, flat_map, length, map, All}
use Rattle.std.specs.List.{range_with_len, slice_index_or}
use Rattle.value_types.specs.declared.types.ColumnType.{ColumnType}
use Rattle.value_types.specs.declared.types.ColumnType.TheVariants.{Varchar}
use Rattle.value_types.specs.Datum.{Datum}
use Rattle.column_store.specs.TableView.{column_of}
use Rattle.zip_archive.specs.Archive.{Member}
use Rattle.npz_writer.specs.declared.part.Part.{Part}
use Rattle.npz_writer.specs.Arrays.{array_bytes, element_count, element_kind, part_name, parts_of}
use Rattle.npz_writer.specs.Npy.{npy}

-- the keys and the types of columns, and the rows
pub record SheetView : Type 0 where
  pub keys : List (List ℕ)
  pub types : List ColumnType
  pub rows : List (List Datum)

-- the file of an array of a column
abbrev pub member_of : List ℕ → ColumnType → List Datum → Part → Member
member_of key ty cells part = record {
  name = key ++ part_name ty part ++ codes ".npy";
  bytes = npy (element_kind ty part) (element_count ty part cells) (array_bytes ty part cells);
}

-- the files of a column's arrays
abbrev pub column_members : List ℕ → ColumnType → List Datum → List Member
column_members key ty cells = map (member_of key ty cells) (parts_of ty cells)

-- the files of the column of a number
abbrev pub members_at : SheetView → ℕ → List Member
members_at sheet column = column_members (slice_index_or sheet.keys column []) (slice_index_or sheet.types column Varchar) (column_of sheet.rows column)

-- the files of all columns, in order
abbrev pub sheet_members : SheetView → List Member
sheet_members sheet = flat_map (members_at sheet) (range_with_len 0 (length sheet.types))

-- each column has a key, whose arrays can be named: `:bytes` and `.npy` come behind it at most
pub record IsTold (sheet : SheetView) : Type 0 where
  pub keys : length sheet.keys ≡ length sheet.types
  pub short : All (λ key. length key ≤ 65521) sheet.keys
