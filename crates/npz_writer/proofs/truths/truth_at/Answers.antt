use Rattle.std.proofs.Common.{false, get_or, arith}
use Rattle.std.proofs.lemmas.Option.{slice_get-get_or}
use Rattle.npz_writer.proofs.Unmarked.{unmarked-get}
use Rattle.npz_writer.proofs.truths.truth_at.Goals as goal

pub returns : goal.returns
returns c =
    unmarked-get false c.args.nulls.now c.args.truths.now c.args.row c.is_marked.result (get_or c.args.truths.now c.args.row false) c.unless_null.result c.is_marked.ensures
    (slice_get-get_or c.args.truths.now c.args.row false (omega arith)) c.unless_null.ensures
