-- Worked texts and rows.
use Rattle.std.specs.Prelude.{◌≡◌, [], ◌∷◌, codes, refl, pos, true}
use Rattle.std.specs.Fmt.{digits}
use Rattle.sqlite_value.specs.declared.value.Value.TheVariants as stored
use Rattle.value_types.specs.declared.types.ColumnType.TheVariants.{Bigint, Varchar}
use Rattle.value_types.specs.declared.types.Value.TheVariants as values
use Rattle.value_types.specs.Datum.{null, typed, text}
use Rattle.db_writer.specs.Naming.{database_names}
use Rattle.db_writer.specs.Definitions.{create_text}
use Rattle.db_writer.specs.Stored.{stored_row}

-- names that differ only in case, one of which is taken already, and a NUL byte
names_apart : database_names (codes "id" ∷ codes "ID_1" ∷ codes "Id" ∷ (97 ∷ 0 ∷ []) ∷ []) ≡ codes "id" ∷ codes "ID_1" ∷ codes "Id_2" ∷ codes "a_" ∷ []
unfolding digits
names_apart = refl

two_columns : create_text (codes "data") (codes "id" ∷ codes "a \"b\"" ∷ []) (Bigint ∷ Varchar ∷ []) ≡ codes "CREATE TABLE \"data\" (\"id\" BIGINT, \"a \"\"b\"\"\" VARCHAR)"
unfolding digits
two_columns = refl

cells : stored_row (null ∷ typed (values.Bool true) ∷ typed (values.Date (pos 1)) ∷ text [] ∷ []) ≡ stored.Null ∷ stored.Int (pos 1) ∷ stored.Text (codes "1970-01-02") ∷ stored.Text [] ∷ []
unfolding digits
cells = refl
