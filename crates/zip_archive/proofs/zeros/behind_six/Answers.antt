use Rattle.std.proofs.Common.{refl, arith}
use Rattle.zip_archive.specs.Crc.{bit_step, zeros}
use Rattle.zip_archive.specs.declared.far_tables.TheConstants.{BEHIND_SIX}
use Rattle.zip_archive.proofs.TableEntries.{entry-at}
use Rattle.zip_archive.proofs.zeros.behind_six.Goals as goal

pub returns : goal.returns
unfolding bit_step zeros
returns c = entry-at 7 BEHIND_SIX c.args.byte refl (omega arith)
