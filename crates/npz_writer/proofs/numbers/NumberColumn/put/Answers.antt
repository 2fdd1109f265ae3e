use Rattle.std.proofs.Common.{◌≡◌, ◌∙◌, ap, length, arith}
use Rattle.value_types.proofs.ViewSteps.{number_kept}
use Rattle.npz_writer.specs.Arrays.{number_bytes}
use Rattle.npz_writer.specs.Blocks.{written_numbers}
use Rattle.npz_writer.proofs.Stored.{length-number_bytes, one_stored}
use Rattle.npz_writer.proofs.numbers.NumberColumn.put.Goals as goal

pub loop-row-preserved : goal.loop-row-preserved
loop-row-preserved c =
    let is : c.number_bytes-bytes.result ≡ number_bytes c.get.result = c.number_bytes-bytes.ensures ∙ ap number_bytes (number_kept c.get.result c.get.type_inv) in
    one_stored (written_numbers c.args.self.now) c.args.from c.loop-row.row c.get.result (omega arith) c.get.ensures number_bytes c.loop-row.block c.store.new.block c.number_bytes-bytes.result
    is (ap length is ∙ length-number_bytes c.get.result) c.loop-row.invariant c.store.ensures
