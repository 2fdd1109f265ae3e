use Rattle.std.proofs.Common.{arith}
use Rattle.column_taps.proofs.ColumnRows.{widths_by_column}
use Rattle.column_taps.proofs.width.WidthTapRowTap.take_columns.Goals as goal

pub returns : goal.returns
returns c = widths_by_column c.args.rows c.args.columns.now (omega (arith, c.if-rows-eq0.false)) c.requires.long c.args.self.now.widths.items c.add_columns.new.known.items c.in_ok-add_columns.ensures.ok
