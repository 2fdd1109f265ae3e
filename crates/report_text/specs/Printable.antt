-- Outcomes that have a text (this loader's profile).
use Rattle.std.specs.Prelude.{◌≡◌, length, true, All, ⊤}
use Rattle.value_types.specs.Spelled.{IsSpelledCell}
use Rattle.value_types.specs.OfType.{fit_all}
use Rattle.csv_sniffer.specs.declared.found.Sniffed.{Sniffed}
use Rattle.file_list.specs.BatchView.{BatchView}
use Rattle.report_text.specs.declared.outcome.Loaded.{Loaded}
use Rattle.report_text.specs.declared.outcome.Outcome.{Outcome}
use Rattle.report_text.specs.declared.outcome.Outcome.TheVariants as outcome

-- as many names as types, and rows that fit them, of values that some text spells
pub record IsPrintableLoad (l : Loaded) : Type 0 where
  pub names : length l.sniffed.names ≡ length l.sniffed.types
  pub types : l.table.types ≡ l.sniffed.types
  pub rows : All (λ cells. fit_all l.sniffed.types cells ≡ true) l.table.rows
  pub values : All (λ cells. All IsSpelledCell cells) l.table.rows

-- the same of several files
pub record IsPrintableBatch (s : Sniffed) (batch : BatchView) : Type 0 where
  pub names : length s.names ≡ length s.types
  pub types : batch.types ≡ s.types
  pub rows : All (λ cells. fit_all s.types cells ≡ true) batch.rows
  pub values : All (λ cells. All IsSpelledCell cells) batch.rows

abbrev pub IsPrintable : Outcome → Type 0
IsPrintable (outcome.Refused fault word) = ⊤
IsPrintable outcome.ReadFault = ⊤
IsPrintable (outcome.TooLarge limit) = ⊤
IsPrintable (outcome.Mismatch mismatch) = ⊤
IsPrintable (outcome.TooManyFaults bound) = ⊤
IsPrintable (outcome.Sniffed s) = length s.names ≡ length s.types
IsPrintable (outcome.Explained s e) = length s.names ≡ length s.types
IsPrintable (outcome.Split s further cuts) = length s.names ≡ length s.types
IsPrintable (outcome.Loaded l) = IsPrintableLoad l
IsPrintable (outcome.Summary l tap_lines) = IsPrintableLoad l
IsPrintable (outcome.Batch s batch store stats) = IsPrintableBatch s batch
IsPrintable (outcome.FirstError s reject) = length s.names ≡ length s.types
