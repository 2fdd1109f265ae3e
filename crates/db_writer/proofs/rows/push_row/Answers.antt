use Rattle.std.proofs.Common.{◌≡◌, List, [], Some, ap, ◌∙◌, sym, get_or}
use Rattle.std.specs.Prelude.{slice_get}
use Rattle.std.specs.Option.{option_and_then}
use Rattle.std.proofs.lemmas.Option.{slice_get-get_or}
use Rattle.value_types.specs.Datum.{Datum, datum_of}
use Rattle.db_writer.proofs.RowsLaid.{cell-appended}
use Rattle.db_writer.proofs.rows.push_row.Goals as goal

pub loop-column-preserved : goal.loop-column-preserved
loop-column-preserved c =
    let rows : List (List Datum) = c.args.chunk.now.rows in
    let cells : List Datum = get_or rows c.args.row [] in
    let k = c.loop-column.column in
    let cell : Datum = datum_of c.cell_at.result in
    let at : slice_get cells k ≡ Some cell = ap (λ o. option_and_then (λ (cs : List Datum). slice_get cs k) o) (sym (slice_get-get_or rows c.args.row [] c.requires.within)) ∙ c.cell_at.ensures in
    cell-appended c.args.writer.now c.loop-column.writer c.push_cell.new.self cells k cell at c.loop-column.invariant c.in_ok-push_cell.ensures.ok
