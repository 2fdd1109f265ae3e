use Rattle.std.proofs.Common.{◌≡◌, take, false}
use Rattle.range_scan.specs.FastRows.{is_plain_in}
use Rattle.range_scan.proofs.fast_rows.kinds.is_plain_in.Given as goal

abbrev pub invariant-loop-column : goal.invariant-loop-column
invariant-loop-column l = is_plain_in (take l.column l.types) l.byte ≡ false
