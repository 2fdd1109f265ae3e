-- The marks of a text, each of which a scan tells as a text of its own.
use Rattle.std.specs.Prelude.{Some}
use Rattle.csv_sniffer.specs.declared.found.Sniffed.{Sniffed}
use Rattle.npz_writer.specs.declared.scans.Marks.{Marks}

abbrev pub marks_of : Sniffed → Marks
marks_of s = record { delim = Some s.dialect.delim; quote = s.dialect.quote; escape = s.dialect.escape }
