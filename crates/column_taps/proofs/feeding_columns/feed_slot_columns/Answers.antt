use Rattle.std.proofs.Common.{sym, arith}
use Rattle.value_types.specs.Views.{view_rows}
use Rattle.column_taps.proofs.CourseSteps.{over_stays, is_over, goes_on, goes_in_part}
use Rattle.column_taps.proofs.ShownSteps.{many}
use Rattle.column_taps.proofs.feeding_columns.feed_slot_columns.Goals as goal

pub returns-in_default : goal.returns-in_default
returns-in_default g c = rw c.in_default.is (sym (over_stays c.in_default.field-0 c.args.number (view_rows c.args.columns.now c.args.rows)))

pub returns-in-Err : goal.returns-in-Err
returns-in-Err g c = rw c.in-Live.is (goes_in_part _ _ c.args.number (view_rows c.args.columns.now c.args.rows) c.in-Err.ensures)

pub returns-then-taken-rows : goal.returns-then-taken-rows
returns-then-taken-rows g c =
    let long = many c.args.columns.now c.args.rows in
    rw c.in-Live.is (is_over _ _ c.args.number c.in-Ok.taken (view_rows c.args.columns.now c.args.rows) c.in-Ok.ensures (omega (arith, long, c.if-taken-rows.true)))

pub returns-else-taken-rows : goal.returns-else-taken-rows
returns-else-taken-rows g c =
    let long = many c.args.columns.now c.args.rows in
    rw c.in-Live.is (goes_on _ _ c.args.number c.in-Ok.taken (view_rows c.args.columns.now c.args.rows) c.in-Ok.ensures (omega (arith, long, c.if-taken-rows.false)))
