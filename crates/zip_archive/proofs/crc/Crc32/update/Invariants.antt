use Rattle.std.proofs.Common.{◌≡◌, drop, length}
use Rattle.zip_archive.specs.Crc.{crc_after}
use Rattle.zip_archive.proofs.crc.Crc32.update.Given as goal

-- what the register comes to behind the bytes that are left
abbrev pub invariant-loop-front : goal.invariant-loop-front
invariant-loop-front l = crc_after l.register l.rest ≡ crc_after l.initial.register l.bytes

abbrev pub decreases-loop-front : goal.decreases-loop-front
decreases-loop-front l = length l.rest

abbrev pub invariant-loop-byte : goal.invariant-loop-byte
invariant-loop-byte l = crc_after l.register (drop l.byte-index l.byte-items) ≡ crc_after l.initial.register l.byte-items
