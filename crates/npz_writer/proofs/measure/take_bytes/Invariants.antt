use Rattle.std.proofs.Common.{◌≡◌, ◌+◌, length}
use Rattle.zip_archive.specs.Crc.{crc_after}
use Rattle.npz_writer.specs.Walks.{rest, steps}
use Rattle.npz_writer.proofs.measure.take_bytes.Given as goal

abbrev pub invariant-loop-count : goal.invariant-loop-count
invariant-loop-count l = record {
  total : l.total + length (rest l.walk) ≡ length (rest l.fn.walk);
  crc : crc_after l.crc (rest l.walk) ≡ crc_after l.fn.crc (rest l.fn.walk);
}

abbrev pub decreases-loop-count : goal.decreases-loop-count
decreases-loop-count l = steps l.walk
