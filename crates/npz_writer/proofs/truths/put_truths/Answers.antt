use Rattle.std.proofs.Common.{false, arith}
use Rattle.npz_writer.specs.Arrays.{truth_byte}
use Rattle.npz_writer.specs.Blocks.{unmarked}
use Rattle.npz_writer.proofs.Stored.{one_put}
use Rattle.npz_writer.proofs.truths.put_truths.Goals as goal

pub loop-row-preserved : goal.loop-row-preserved
loop-row-preserved c =
    one_put (unmarked false c.args.nulls.now c.args.truths.now) c.args.from c.loop-row.row c.truth_at.result (omega arith) c.truth_at.ensures truth_byte c.loop-row.block c.truth_byte.result (omega arith)
    c.truth_byte.ensures c.loop-row.invariant
