use Rattle.std.proofs.Common.{refl, arith}
use Rattle.zip_archive.specs.Crc.{bit_step, zeros}
use Rattle.zip_archive.specs.declared.tables.TheConstants.{BEHIND_NONE}
use Rattle.zip_archive.proofs.TableEntries.{entry-at}
use Rattle.zip_archive.proofs.zeros.behind_none.Goals as goal

pub returns : goal.returns
unfolding bit_step zeros
returns c = entry-at 1 BEHIND_NONE c.args.byte refl (omega arith)
