use Rattle.std.proofs.Common.{◌≡◌, [], map}
use Rattle.std.specs.List.{range_with_len}
use Rattle.csv_sniffer.specs.Columns.{column_sample}
use Rattle.csv_sniffer.proofs.explaining.entries.no_samples.Given as goal

abbrev pub invariant-loop-column : goal.invariant-loop-column
invariant-loop-column l = l.samples.items ≡ map (λ column. column_sample l.options l.sniffed column []) (range_with_len 0 l.column)
