use Rattle.std.proofs.Common.{◌≡◌, take, false}
use Rattle.std.specs.List.{list_any}
use Rattle.range_scan.specs.FastRows.{has_byte}
use Rattle.range_scan.proofs.fast_rows.kinds.have_byte.Given as goal

abbrev pub invariant-loop-number : goal.invariant-loop-number
invariant-loop-number l = list_any (has_byte l.byte) (take l.number l.texts) ≡ false
