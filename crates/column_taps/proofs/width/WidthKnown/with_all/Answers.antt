use Rattle.column_taps.proofs.ColumnRows.{no_texts}
use Rattle.column_taps.proofs.width.WidthKnown.with_all.Goals as goal

pub returns-in_default : goal.returns-in_default
returns-in_default c = no_texts c.args.width c.args.rows c.args.column.now c.in_default.not-Varchar
