-- What the fields of a written reject are.
use Rattle.std.specs.Prelude.{◌≡◌, ℕ}
use Rattle.std.specs.Fmt.{decimal}
use Rattle.csv_writer.specs.WrittenTable.{text_field}

-- a number has no quotes
abbrev pub NumbersAreBare : Type 0
NumbersAreBare = (n : ℕ) → text_field (decimal n) ≡ decimal n
