use Rattle.std.proofs.Common.{ℕ, ◌+◌, drop, ap, sym, ◌∙◌}
use Rattle.zip_archive.specs.Crc.{crc_after}
use Rattle.zip_archive.proofs.Registers.{crc_after-drop}
use Rattle.zip_archive.proofs.crc.Crc32.update.Goals as goal

pub loop-byte-preserved : goal.loop-byte-preserved
loop-byte-preserved c =
    ap (λ (r : ℕ). crc_after r (drop (c.loop-byte.byte-index + 1) c.loop-front.rest.now)) c.byte_step-register.ensures
    ∙ sym (crc_after-drop c.loop-byte.register c.loop-front.rest.now c.loop-byte.byte-index c.loop-byte-test.true)
    ∙ c.loop-byte.invariant
