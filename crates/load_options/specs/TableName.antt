-- Words that give the name of a database's table (this loader's profile; names that SQLite keeps to itself: its page "CREATE TABLE").
use Rattle.std.specs.Prelude.{ℕ, ◌==◌, ◌&&◌, ◌||◌, not, Bool, List, codes, length, take}
use Rattle.std.specs.Int.{is_in_range}
use Rattle.std.specs.List.{list_any}
use Rattle.std.specs.Str.{str_eq_ignore_ascii_case}
use Rattle.load_options.specs.declared.limits.TheConstants.{TABLE_NAME_LIMIT}

-- whether a text begins with another, in any ASCII case
abbrev pub begins_with : List ℕ → List ℕ → Bool
begins_with text front = str_eq_ignore_ascii_case (take (length front) text) front

-- a name of a table of rejects, or one that SQLite keeps to itself
abbrev pub is_reserved : List ℕ → Bool
is_reserved text =
    str_eq_ignore_ascii_case text (codes "reject_scans") || str_eq_ignore_ascii_case text (codes "reject_errors") || begins_with text (codes "sqlite_")

-- not empty, not too long, without a NUL byte, not reserved
abbrev pub is_table_name : List ℕ → Bool
is_table_name text = is_in_range 1 TABLE_NAME_LIMIT (length text) && not (list_any (λ b. b == 0) text) && not (is_reserved text)
