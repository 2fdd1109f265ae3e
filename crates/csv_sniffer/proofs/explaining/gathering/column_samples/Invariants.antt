use Rattle.std.proofs.Common.{drop}
use Rattle.csv_sniffer.specs.Columns.{HasValues, no_samples}
use Rattle.csv_sniffer.specs.LineCount.{IsCounted}
use Rattle.csv_sniffer.proofs.explaining.gathering.column_samples.Given as goal

-- the rows from the first one up to the place are gathered
abbrev pub invariant-loop-row : goal.invariant-loop-row
invariant-loop-row l = record {
  counted : IsCounted l.file.front.now l.file.rows.sample.now l.reader.lines;
  values : HasValues l.file.options.now l.file.rows.dialect l.file.front.now l.file.rows.sample.now (no_samples l.file.options.now l.sniffed)
      (drop l.first l.file.rows.spans) (drop l.row l.file.rows.spans) l.samples.items;
}
