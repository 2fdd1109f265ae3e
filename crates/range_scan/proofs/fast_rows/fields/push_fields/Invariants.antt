use Rattle.std.proofs.Common.{◌≡◌, ◌≤◌, length}
use Rattle.range_scan.specs.FastRows.{HasFields, KeepsRows}
use Rattle.range_scan.proofs.fast_rows.fields.push_fields.Given as goal

-- the cells of the columns so far are under way
abbrev pub invariant-loop-column : goal.invariant-loop-column
invariant-loop-column l = record {
  under : KeepsRows l.fn.chunk l.chunk;
  count : length l.chunk.unfinished ≡ l.column;
  within : l.from ≤ length l.bytes;
  fields : HasFields l.context l.bytes l.from l.chunk.unfinished;
}
