use Rattle.std.proofs.Common.{◌≡◌, ap, ◌∙◌, sym, arith, length-set}
use Rattle.std.specs.List.{fold}
use Rattle.std.specs.Prelude.{take, Some, slice_get}
use Rattle.std.proofs.lemmas.List.{length_push}
use Rattle.std.proofs.lemmas.Option.{slice_get-get_or}
use Rattle.value_types.specs.Views.{view_cells}
use Rattle.column_taps.proofs.ColumnSteps.{by_column-known, by_column-new}
use Rattle.column_taps.proofs.columns.add_columns.Goals.{then-place-len, else-place-len}
use Rattle.column_taps.proofs.columns.add_columns.Goals as goal

pub loop-place-preserved : goal.loop-place-preserved
loop-place-preserved g c =
    let k = c.loop-place.place in
    let old = c.args.known.now.items in
    let now = c.loop-place.known.items in
    let columns = c.args.columns.now in
    let sound = c.loop-place.invariant in
    let count = c.loop-place.known.ok.0 in
    elim c.if-place-len.branch [
      | then-place-len w ↦
          (let within = w.if-place-len.true in
          let length_set = length-set now k w.with_all.result in
          let column = w.index-columns-place.result in
          let here : slice_get columns k ≡ Some column = slice_get-get_or columns k column (omega arith) ∙ ap Some (sym w.index-columns-place.is) in
          record {
            items = rw w.known-is (by_column-known (λ k column. fold g.K.Known.with k (take c.args.rows (view_cells column))) old now columns k column w.index.result.now w.with_all.result sound.items here
                (omega (arith, count)) w.index.ensures w.with_all.ensures);
            count = rw w.known-is (omega (arith, count));
            room = rw w.known-is sound.room;
          })
      | else-place-len w ↦
          (let past = w.if-place-len.false in
          let length_more = length_push now w.with_all-else-place-len.result in
          let column = w.index-columns-place-else-place-len.result in
          let here : slice_get columns k ≡ Some column = slice_get-get_or columns k column (omega arith) ∙ ap Some (sym w.index-columns-place-else-place-len.is) in
          record {
            items = rw w.known-is (rw w.push_reserved.ensures.items (by_column-new (λ k column. fold g.K.Known.with k (take c.args.rows (view_cells column))) old now columns k column w.with_all-else-place-len.result
                sound.items here (omega (arith, count)) w.with_all-else-place-len.ensures));
            count = rw w.known-is (rw w.push_reserved.ensures.items (omega (arith, count)));
            room = rw w.known-is (omega (arith, w.push_reserved.ensures.capacity));
          })
    ]
