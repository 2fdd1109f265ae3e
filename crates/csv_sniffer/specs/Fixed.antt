-- Options that fix what was found (this loader's profile).
use Rattle.std.specs.Prelude.{◌&&◌, not, nat_le, Bool, if◌then◌else◌, List, length, Some}
use Rattle.value_types.specs.declared.types.ColumnType.{ColumnType}
use Rattle.load_options.specs.declared.limits.TheConstants.{COLUMN_LIMIT}
use Rattle.load_options.specs.declared.options.Options.{Options}
use Rattle.csv_source.specs.Lists.{is_empty}
use Rattle.dialect_rank.specs.Candidates.{with_dialect}
use Rattle.csv_sniffer.specs.declared.found.Sniffed.{Sniffed}

-- whether the types that were found can be given beside the options: they can't where all are asked to be VARCHAR, or some are given by
-- name, and a word takes so many
abbrev pub fixes_types : Options → Sniffed → Bool
fixes_types o s = not o.all_varchar && is_empty o.column_types.names && nat_le (length s.types) COLUMN_LIMIT

abbrev pub fixed_types : Options → Sniffed → List ColumnType
fixed_types o s = if fixes_types o s then s.types else o.types

-- the options with the dialect, the header and the types that were found in the place of what was given for them
abbrev pub fixed : Options → Sniffed → Options
fixed o s = record (with_dialect o s.dialect) { header = Some s.header; types = fixed_types o s }
