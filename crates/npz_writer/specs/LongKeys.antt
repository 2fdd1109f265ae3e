-- Columns whose names are too long for an archive (this writer's profile).
use Rattle.std.specs.Prelude.{ℕ, nat_lt, length, Bool, List, Option}
use Rattle.std.specs.List.{position_from}
use Rattle.csv_sniffer.specs.declared.found.Sniffed.{Sniffed}
use Rattle.npz_writer.specs.declared.keys.TheConstants.{KEY_LIMIT}
use Rattle.npz_writer.specs.Keys.{key_text}

abbrev pub is_long : List ℕ → Bool
is_long name = nat_lt KEY_LIMIT (length (key_text name))

-- the first column, from 0, whose name's text is too long
abbrev pub long_key : Sniffed → Option ℕ
long_key s = position_from is_long 0 s.names
