use Rattle.std.proofs.Common.{◌≡◌, ◌∙◌, List, map, ap}
use Rattle.value_types.specs.Datum.{Datum}
use Rattle.value_types.specs.Views.{view_rows}
use Rattle.column_taps.specs.Course.{course_after}
use Rattle.column_taps.specs.Slots.{course_in}
use Rattle.loader_reply.proofs.showing.show_chunk.Goals as goal

pub returns : goal.returns
returns g c =
    let chunk = c.args.chunk.now in
    let rows : view_rows c.deref.result.now c.rows.result ≡ chunk.rows =
    (λ i. view_rows (c.deref.ensures.value i) (c.rows.ensures i)) ∙ c.in_ok-views.ensures.rows in record {
      ok = c.in_ok-feed_columns.ensures
          ∙ ap (λ (rs : List (List Datum)). map (λ course. course_after c.args.number course rs) (map (course_in (λ v x. (goal.RowTap-dyn g (v, x)).seen x)) c.args.slots.now)) rows;
    }
