-- The definitions of tables (SQLite, "CREATE TABLE"; the columns of the two tables of rejects are those of DuckDB's manual, "Reading Faulty CSV Files").
use Rattle.std.specs.Prelude.{ℕ, ◌==◌, if◌then◌else◌, List, [], ◌∷◌, ◌++◌, codes, zip}
use Rattle.value_types.specs.declared.types.ColumnType.{ColumnType}
use Rattle.value_types.specs.TypeName.{name_of_type}
use Rattle.csv_writer.specs.Quoting.{quoted}
use Rattle.db_writer.specs.Naming.{database_names}

-- a name between quotes, and the type
abbrev pub column_text : (List ℕ × ColumnType) → List ℕ
column_text column = quoted column.0 ++ codes " " ++ name_of_type column.1

-- columns with a comma and a space between each two
abbrev pub columns_text : List (List ℕ × ColumnType) → List ℕ
columns_text [] = []
columns_text (column ∷ []) = column_text column
columns_text (column ∷ next ∷ columns) = column_text column ++ codes ", " ++ columns_text (next ∷ columns)

-- what stands before the column of a number
abbrev pub separator : ℕ → List ℕ
separator column = if column == 0 then [] else codes ", "

-- the definition of a table of columns of these names and types
abbrev pub create_text : List ℕ → List (List ℕ) → List ColumnType → List ℕ
create_text table names types =
    codes "CREATE TABLE " ++ quoted table ++ codes " (" ++ columns_text (zip (database_names names) types) ++ codes ")"

abbrev pub scans_text : List ℕ
scans_text =
    codes "CREATE TABLE \"reject_scans\" (\"scan_id\" INTEGER, \"file_id\" INTEGER, \"file_path\" TEXT, \"delimiter\" TEXT, \"quote\" TEXT, \"escape\" TEXT, \"newline_delimiter\" TEXT, \"skip_rows\" INTEGER, \"has_header\" TEXT, \"columns\" INTEGER)"

abbrev pub errors_text : List ℕ
errors_text =
    codes "CREATE TABLE \"reject_errors\" (\"scan_id\" INTEGER, \"file_id\" INTEGER, \"line\" INTEGER, \"line_byte_position\" INTEGER, \"byte_position\" INTEGER, \"column_idx\" INTEGER, \"column_name\" TEXT, \"error_type\" TEXT, \"csv_line\" TEXT, \"error_message\" TEXT)"
