use Rattle.std.proofs.Common.{◌<◌, ℕ, Option, length, arith}
use Rattle.row_fields.specs.Split.{fields_in}
use Rattle.csv_sniffer.specs.Entries.{entry_in}
use Rattle.csv_sniffer.specs.declared.explaining.entries.Entry.{Entry}
use Rattle.csv_sniffer.proofs.EntrySteps.{grown_below, unchanged_from}
use Rattle.csv_sniffer.proofs.explaining.gathering.push_values.Goals as goal

pub loop-column-preserved : goal.loop-column-preserved
loop-column-preserved c =
    let entry : ℕ → Option Entry = entry_in c.args.options.now c.args.row.now.line (fields_in c.args.row.now.bytes.now c.args.row.now.fields.now) in
    let now = c.loop-column.samples in
    let column = c.loop-column.column in
    let within : column < length now = omega (arith, c.loop-column.auto.samples, c.loop-column-test.true) in record {
      below = grown_below entry c.args.samples.now now column _ within _ c.in_ok-push_value.ensures c.loop-column.invariant.above c.loop-column.invariant.below;
      above = unchanged_from entry c.args.samples.now now column _ within c.loop-column.invariant.above;
    }
