use Rattle.std.proofs.Common.{rules, sym, ◌∙◌}
use Rattle.range_scan.specs.FastRows.{is_plain_in}
use Rattle.range_scan.proofs.PlainTests.{begins_is, begins_none}
use Rattle.range_scan.proofs.fast_rows.kinds.is_plain_front.Goals as goal

pub returns-then-is_empty : goal.returns-then-is_empty
returns-then-is_empty c = sym (begins_none (is_plain_in c.args.types.now) c.args.text.now (search rules))

pub returns : goal.returns
returns c = c.is_plain_in.ensures ∙ sym (begins_is (is_plain_in c.args.types.now) c.args.text.now (search rules))
