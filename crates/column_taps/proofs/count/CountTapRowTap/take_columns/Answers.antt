use Rattle.std.proofs.Common.{◌*◌, ◌≤◌, length, arith}
use Rattle.column_taps.proofs.ColumnRows.{counts_by_column, counts_are_few}
use Rattle.column_taps.proofs.count.CountTapRowTap.take_columns.Goals as goal

pub overflow_add-self-2 : goal.overflow_add-self-2
overflow_add-self-2 c =
    let few : c.filled_in.result ≤ c.args.rows * length c.args.columns.now = counts_are_few c.args.rows c.args.columns.now c.filled_in.result c.filled_in.ensures in
    omega (arith, few, c.requires.room.1)

pub returns : goal.returns
returns c = counts_by_column c.args.rows c.args.columns.now c.args.self.now.rows c.args.self.now.cells c.filled_in.result c.requires.long c.filled_in.ensures
