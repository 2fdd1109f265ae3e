-- Words that give the format in which rows are written (this loader's profile).
use Rattle.std.specs.Prelude.{ℕ, ◌||◌, Bool, true, false, if◌then◌else◌, List, codes, Option, Some, None}
use Rattle.std.specs.Option.{is_some}
use Rattle.std.specs.Str.{bytes_eq}
use Rattle.load_options.specs.declared.options.Command.{Command}
use Rattle.load_options.specs.declared.options.Command.TheVariants.{Load, Sniff, Summary, Profile, Convert, Rejects, Batch, Make, Split}
use Rattle.load_options.specs.declared.options.OutputFormat.{OutputFormat}
use Rattle.load_options.specs.declared.options.OutputFormat.TheVariants.{Csv, Sqlite, Npz}

-- the format of that name
abbrev pub format_named : List ℕ → Option OutputFormat
format_named text =
    if bytes_eq text (codes "csv") then Some Csv
    else (if bytes_eq text (codes "sqlite") then Some Sqlite
    else (if bytes_eq text (codes "npz") then Some Npz else None))

abbrev pub is_format : List ℕ → Bool
is_format text = is_some (format_named text)

-- whether a format is given that is a database's
abbrev pub is_sqlite : Option OutputFormat → Bool
is_sqlite None = false
is_sqlite (Some Csv) = false
is_sqlite (Some Sqlite) = true
is_sqlite (Some Npz) = false

-- whether a format is given that is that of NumPy's arrays
abbrev pub is_npz : Option OutputFormat → Bool
is_npz None = false
is_npz (Some Csv) = false
is_npz (Some Sqlite) = false
is_npz (Some Npz) = true

-- whether a format is given that isn't text
abbrev pub is_binary : Option OutputFormat → Bool
is_binary format = is_sqlite format || is_npz format

-- whether a command writes a format: CSV is that of `convert` alone
abbrev pub writes : Command → OutputFormat → Bool
writes Load format = false
writes Sniff format = false
writes Summary format = false
writes Profile format = false
writes Convert format = true
writes Rejects format = false
writes Batch Csv = false
writes Batch Sqlite = true
writes Batch Npz = true
writes Make format = false
writes Split format = false
