-- The parts of a line, as they are written (this loader's profile).
use Rattle.std.specs.Prelude.{ℕ, List, ◌++◌}
use Rattle.std.specs.List.{join_with_byte}
use Rattle.std.specs.Fmt.{decimal}
use Rattle.std.specs.Str.{byte}
use Rattle.csv_source.specs.Shown.{shown, shown_option}
use Rattle.report_text.specs.declared.lines.Part.{Part}
use Rattle.report_text.specs.declared.lines.Part.TheVariants.{Plain, Shown, Number, Mark, NamedPlain, NamedNumber, NamedMark}

abbrev pub part_text : Part → List ℕ
part_text (Plain bytes) = bytes.now
part_text (Shown bytes) = shown bytes.now
part_text (Number number) = decimal number
part_text (Mark mark) = shown_option mark
part_text (NamedPlain name bytes) = name.now ++ bytes.now
part_text (NamedNumber name number) = name.now ++ decimal number
part_text (NamedMark name mark) = name.now ++ shown_option mark

-- the parts with a bar between each two: a line up to its LF
abbrev pub front_of : List (List ℕ) → List ℕ
front_of parts = join_with_byte (byte "|") parts
