use Rattle.std.proofs.Common.{sym}
use Rattle.zip_archive.proofs.ZeroBytes.{crc_after-eight}
use Rattle.zip_archive.proofs.crc.eight_steps.Goals as goal

pub returns : goal.returns
returns c =
    rw (c.behind_eight_zeros.ensures, c.from.ensures, c.from_le_bytes.ensures) (sym (crc_after-eight c.args.register c.args.bytes.now c.told-bytes c.fits-bytes))
