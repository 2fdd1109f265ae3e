use Rattle.std.proofs.Common.{sym}
use Rattle.zip_archive.proofs.ZeroBytes.{byte_step-cut}
use Rattle.zip_archive.proofs.crc.byte_step.Goals as goal

pub returns : goal.returns
returns c = rw (c.behind_none.ensures, c.from.ensures) (sym (byte_step-cut c.args.register c.args.byte))
