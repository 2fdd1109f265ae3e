use Rattle.std.proofs.Common.{sym, arith}
use Rattle.zip_archive.proofs.ZeroBytes.{zeros-apart}
use Rattle.zip_archive.proofs.zeros.behind_eight_zeros.Goals as goal

pub returns : goal.returns
returns c =
    rw (
      c.behind_seven.ensures,
      c.behind_six.ensures,
      c.behind_five.ensures,
      c.behind_four.ensures,
      c.behind_three.ensures,
      c.behind_two.ensures,
      c.behind_one.ensures,
      c.behind_none.ensures,
      c.to_le_bytes.ensures,
    )
    (sym (zeros-apart c.args.number (omega arith)))
