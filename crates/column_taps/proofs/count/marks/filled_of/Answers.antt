use Rattle.std.proofs.Common.{Bool, ap, take, arith}
use Rattle.std.specs.Prelude.{count_by}
use Rattle.column_taps.proofs.ColumnRows.{filled_by_marks}
use Rattle.column_taps.proofs.count.marks.filled_of.Goals as goal

pub returns : goal.returns
returns c =
    let same = ap (λ marks. count_by (λ (mark : Bool). mark) (take c.args.rows marks)) c.nulls.ensures in
    omega (arith, c.unmarked.ensures, same, filled_by_marks c.args.rows c.args.column.now c.requires)
