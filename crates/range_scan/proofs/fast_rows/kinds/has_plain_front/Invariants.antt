use Rattle.std.proofs.Common.{◌≡◌, take, false}
use Rattle.std.specs.List.{list_any}
use Rattle.range_scan.specs.FastRows.{begins_plain, is_plain_in}
use Rattle.range_scan.proofs.fast_rows.kinds.has_plain_front.Given as goal

abbrev pub invariant-loop-number : goal.invariant-loop-number
invariant-loop-number l = list_any (begins_plain (is_plain_in l.types)) (take l.number l.texts) ≡ false
