-- The keys of columns in an archive (this writer's profile: a name without ASCII case, as file systems compare them).
use Rattle.std.specs.Prelude.{ℕ, ◌/◌, ◌%◌, ◌==◌, ◌||◌, nat_lt, true, Bool, if◌then◌else◌, List, [], ◌∷◌, flat_map, map}
use Rattle.std.specs.Fmt.{digit_glyph}
use Rattle.std.specs.Str.{byte}
use Rattle.db_writer.specs.Naming.{names_apart}

-- whether a byte ends a name, or means something else in the name of a file or of an array
abbrev pub is_spelled : ℕ → Bool
is_spelled b = nat_lt b 32 || b == 127 || b == byte "%" || b == byte "/" || b == byte "\\" || b == byte ":"

-- such a byte as `%` and its two hexadecimal digits
abbrev pub key_byte : ℕ → List ℕ
key_byte b = if is_spelled b then byte "%" ∷ digit_glyph true (b / 16) ∷ digit_glyph true (b % 16) ∷ [] else b ∷ []

-- the text of a name
abbrev pub key_text : List ℕ → List ℕ
key_text name = flat_map key_byte name

-- the keys of columns, by their names
abbrev pub column_keys : List (List ℕ) → List (List ℕ)
column_keys names = names_apart [] (map key_text names)
