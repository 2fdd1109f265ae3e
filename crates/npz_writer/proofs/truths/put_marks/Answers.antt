use Rattle.std.proofs.Common.{◌∙◌, ap, false, arith}
use Rattle.std.specs.Prelude.{slice_index_or}
use Rattle.npz_writer.specs.Arrays.{truth_byte}
use Rattle.npz_writer.proofs.Stored.{one_place_put}
use Rattle.npz_writer.proofs.truths.put_marks.Goals as goal

pub loop-row-preserved : goal.loop-row-preserved
loop-row-preserved c =
    one_place_put (λ row. truth_byte (slice_index_or c.args.nulls.now row false)) c.loop-row.block c.args.from c.loop-row.row c.truth_byte.result (omega arith) (omega arith)
    (c.truth_byte.ensures ∙ ap truth_byte c.is_marked.ensures) c.loop-row.invariant
