use Rattle.std.proofs.Common.{◌∙◌, List, ℕ, ap, sym, take, length, arith, length-append, length-take}
use Rattle.std.proofs.lemmas.Grind.{common_steps}
use Rattle.zip_archive.specs.Crc.{crc_after}
use Rattle.zip_archive.proofs.Registers.{crc_after-append}
use Rattle.npz_writer.specs.Walks.{rest}
use Rattle.npz_writer.proofs.measure.take_bytes.Goals as goal

pub loop-count-preserved : goal.loop-count-preserved
loop-count-preserved c =
    let step = c.in-Some.ensures in
    let block : List ℕ = take c.in-Some.count c.next.new.block in
    let left : List ℕ = rest c.next.new.self in
    record {
      total = grind (arith, common_steps, c.loop-count.invariant.total, ap length step.bytes, length-append block left, length-take c.in-Some.count c.next.new.block, step.within);
      crc =
          ap (λ r. crc_after r left) c.update.ensures ∙ sym (crc_after-append c.loop-count.crc block left) ∙ ap (crc_after c.loop-count.crc) (sym step.bytes)
          ∙ c.loop-count.invariant.crc;
    }
