-- The register of a checksum.
use Rattle.std.proofs.Common.{◌≡◌, ℕ, ◌+◌, ◌<◌, List, [], ◌∷◌, ◌++◌, length, drop, get_or, refl, drop-cons, add-one}
use Rattle.zip_archive.specs.Crc.{byte_step, crc_after}

-- a register goes on behind the bytes before
pub crc_after-append : (r : ℕ) (front rest : List ℕ) → crc_after r (front ++ rest) ≡ crc_after (crc_after r front) rest
crc_after-append r [] rest = refl
crc_after-append r (b ∷ bs) rest = crc_after-append (byte_step r b) bs rest

-- the next one of the bytes that are left
pub crc_after-drop : (r : ℕ) (bytes : List ℕ) (at : ℕ) → at < length bytes → crc_after r (drop at bytes) ≡ crc_after (byte_step r (get_or bytes at 0)) (drop (at + 1) bytes)
crc_after-drop r bytes at lt = rw (add-one, drop-cons bytes at 0)
