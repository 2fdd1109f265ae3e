use Rattle.std.proofs.Common.{◌≡◌, ◌+◌, ◌++◌, ◌∷◌, [], List, Some, drop, get_or, map, sym, ◌∙◌, ap, subst, arith}
use Rattle.std.specs.Prelude.{slice_get}
use Rattle.std.specs.Option.{option_and_then}
use Rattle.std.proofs.lemmas.Option.{slice_get-get_or}
use Rattle.value_types.specs.Datum.{Datum, datum_of}
use Rattle.text_pieces.specs.Writes.{HasWritten}
use Rattle.text_pieces.proofs.WriteSteps.{last_written, more_written, none_written, told_on}
use Rattle.csv_writer.specs.WrittenTable.{cell_field, row_line}
use Rattle.csv_writer.proofs.StraightSteps.{end-left, field-left, fields_from, line-left}
use Rattle.csv_writer.proofs.straight_rows.write_row.Goals as goal

pub loop-column-init : goal.loop-column-init
loop-column-init g c =
    let cells : List Datum = get_or c.args.chunk.now.rows c.args.row [] in
    subst (HasWritten _ _ _ _ (row_line cells)) (line-left (map cell_field cells)) (none_written (g.K.Sink.taken c.args.sink.now) (g.K.Sink.faults c.args.sink.now) (row_line cells))

pub returns-in_err-write_field : goal.returns-in_err-write_field
returns-in_err-write_field g c =
    let rows : List (List Datum) = c.args.chunk.now.rows in
    let cells : List Datum = get_or rows c.args.row [] in
    let k = c.loop-column.column in
    let cell : Datum = datum_of c.cell_at.result in
    let at : slice_get cells k ≡ Some cell = ap (λ o. option_and_then (λ (cs : List Datum). slice_get cs k) o) (sym (slice_get-get_or rows c.args.row [] c.requires.within)) ∙ c.cell_at.ensures in
    told_on c.from_residual.result _ (fields_from (k + 1) (map cell_field (drop (k + 1) cells)) ++ 10 ∷ []) c.from_residual.ensures.0 c.loop-column.invariant (field-left cell_field cells k cell at) c.in_err-write_field.ensures

pub loop-column-preserved : goal.loop-column-preserved
loop-column-preserved g c =
    let rows : List (List Datum) = c.args.chunk.now.rows in
    let cells : List Datum = get_or rows c.args.row [] in
    let k = c.loop-column.column in
    let cell : Datum = datum_of c.cell_at.result in
    let at : slice_get cells k ≡ Some cell = ap (λ o. option_and_then (λ (cs : List Datum). slice_get cs k) o) (sym (slice_get-get_or rows c.args.row [] c.requires.within)) ∙ c.cell_at.ensures in
    more_written _ (fields_from (k + 1) (map cell_field (drop (k + 1) cells)) ++ 10 ∷ []) c.loop-column.invariant (field-left cell_field cells k cell at) c.in_ok-write_field.ensures

pub returns : goal.returns
returns g c =
    let cells : List Datum = get_or c.args.chunk.now.rows c.args.row [] in
    last_written c.write_text.result
    (subst (HasWritten _ _ _ _ (row_line cells)) (end-left cell_field cells c.loop-column.column (omega (arith, c.loop-column-test.false, c.columns-column-end.ensures, c.requires.full))) c.loop-column.invariant) c.write_text.ensures
