use Rattle.std.proofs.Common.{◌≡◌, Some, arith, ◌∙◌, subst}
use Rattle.std.specs.Prelude.{Ok}
use Rattle.column_taps.specs.declared.kind.Tapped.{Tapped}
use Rattle.column_taps.specs.Seen.{step}
use Rattle.column_taps.specs.Taken.{TakenAs}
use Rattle.column_taps.proofs.ShownSteps.{many, all_went, row_goes_in, row_is_over_in, room_for_one, room_left}
use Rattle.column_taps.proofs.showing.show_each.Goals as goal

pub returns-in-Err : goal.returns-in-Err
returns-in-Err g c =
    let long = many c.args.columns.now c.args.rows in
    (c.loop-row.row, omega (arith, long), c.loop-row.invariant.went)

pub show_to-requires-clause-room : goal.show_to-requires-clause-room
show_to-requires-clause-room g c =
    let t = c.loop-row.tap in
    room_for_one ((goal.RowTap-dyn g (t.vtable, t.value)).seen t.value) c.loop-row.row c.args.rows _ (omega arith) c.loop-row.invariant.room

pub returns-in-Ok-Over : goal.returns-in-Ok-Over
returns-in-Ok-Over g c =
    let t = c.loop-row.tap in
    let u = c.show_to.new.tap in
    let old = c.args.tap.now in
    let before = (goal.RowTap-dyn g (t.vtable, t.value)).seen t.value in
    let after = (goal.RowTap-dyn g (u.vtable, u.value)).seen u.value in
    let over = subst (λ (t : Tapped). TakenAs before c.fill_row.new.cells (Ok t) after) c.in-Ok-Over.field-0-is c.in-Ok-Over.ensures in
    row_is_over_in c.args.columns.now c.args.rows ((goal.RowTap-dyn g (old.vtable, old.value)).seen old.value) before after c.loop-row.row
    c.fill_row.new.cells (omega arith) c.in_default.ensures.ok c.loop-row.invariant.went over.0 over.1

pub returns-in-Err-show_to : goal.returns-in-Err-show_to
returns-in-Err-show_to g c =
    let long = many c.args.columns.now c.args.rows in
    let k = c.loop-row.row in
    (k, omega (arith, long), (λ i. (k, c.in-Err-show_to.ensures i)) ∙ c.loop-row.invariant.went)

pub loop-row-preserved : goal.loop-row-preserved
loop-row-preserved g c =
    let t = c.loop-row.tap in
    let u = c.show_to.new.tap in
    let old = c.args.tap.now in
    let before = (goal.RowTap-dyn g (t.vtable, t.value)).seen t.value in
    let after = (goal.RowTap-dyn g (u.vtable, u.value)).seen u.value in
    let goes : step before c.fill_row.new.cells ≡ Some after = subst (λ (t : Tapped). TakenAs before c.fill_row.new.cells (Ok t) after) c.in-Ok-Goes.field-0-is c.in-Ok-Goes.ensures in
    record {
      went = row_goes_in c.args.columns.now c.args.rows ((goal.RowTap-dyn g (old.vtable, old.value)).seen old.value) before after c.loop-row.row c.fill_row.new.cells (omega arith)
          c.in_default.ensures.ok c.loop-row.invariant.went goes;
      room = room_left c.args.columns.now c.args.rows before after c.loop-row.row c.fill_row.new.cells (omega arith) c.in_default.ensures.ok c.loop-row.invariant.room goes;
    }

pub returns : goal.returns
returns g c =
    let t = c.loop-row.tap in
    let old = c.args.tap.now in
    all_went c.args.columns.now c.args.rows ((goal.RowTap-dyn g (old.vtable, old.value)).seen old.value) ((goal.RowTap-dyn g (t.vtable, t.value)).seen t.value)
    c.loop-row.row (omega arith) (omega arith) c.loop-row.invariant.went
