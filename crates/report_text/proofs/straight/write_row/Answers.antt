use Rattle.std.proofs.Common.{◌≡◌, ◌+◌, ◌++◌, ◌∷◌, [], List, ℕ, drop, ap, arith, get_or, subst, refl}
use Rattle.std.specs.Prelude.{flat_map}
use Rattle.std.proofs.lemmas.List.{drop_all}
use Rattle.std.proofs.lemmas.Option.{slice_get-get_or}
use Rattle.value_types.specs.Datum.{Datum, datum_of, null}
use Rattle.text_pieces.specs.Writes.{HasWritten}
use Rattle.text_pieces.proofs.WriteSteps.{last_written, more_written, none_written, told_on}
use Rattle.report_text.specs.Lines.{cell_text, row_line}
use Rattle.report_text.proofs.RowCells.{cell_in, cells_from, cells-next, line_begins, piece, spelled_in}
use Rattle.report_text.proofs.straight.write_row.Goals as goal

pub returns-in_err-write_text : goal.returns-in_err-write_text
returns-in_err-write_text g c =
    let cells : List Datum = get_or c.args.table.now.rows c.args.row [] in
    told_on {whole = row_line cells} c.from_residual.result _ (cells_from 0 cells) c.from_residual.ensures.0 (none_written _ _ (row_line cells)) (line_begins cells) c.in_err-write_text.ensures

pub loop-column-init : goal.loop-column-init
loop-column-init g c =
    let cells : List Datum = get_or c.args.table.now.rows c.args.row [] in
    more_written {whole = row_line cells} _ (cells_from 0 cells) (none_written _ _ (row_line cells)) (line_begins cells) c.in_ok-write_text.ensures

pub returns-in_err-write_text-2 : goal.returns-in_err-write_text-2
returns-in_err-write_text-2 g c =
    let k : ℕ = c.loop-column.column in
    let cells : List Datum = get_or c.args.table.now.rows c.args.row [] in
    let ahead = cells-next cells k (get_or cells k null) (slice_get-get_or cells k null (omega (arith, c.loop-column-test.true, c.columns-column-end.ensures, c.requires.fits.count))) in
    told_on {whole = row_line cells} {left = cells_from k cells} c.from_residual-in_err-write_text-2.result _ (cell_text (get_or cells k null) ++ cells_from (k + 1) cells) c.from_residual-in_err-write_text-2.ensures.0 c.loop-column.invariant ahead
    c.in_err-write_text-2.ensures

pub write_cell-requires : goal.write_cell-requires
write_cell-requires g c =
    let rows : List (List Datum) = c.args.table.now.rows in
    let cell : Datum = datum_of c.cell_at.result in
    spelled_in (get_or rows c.args.row []) c.loop-column.column cell c.requires.fits.values (cell_in rows c.loop-column.column c.args.row cell c.requires.within c.cell_at.ensures)

pub returns-in_err-write_cell : goal.returns-in_err-write_cell
returns-in_err-write_cell g c =
    let rows : List (List Datum) = c.args.table.now.rows in
    let k : ℕ = c.loop-column.column in
    let cells : List Datum = get_or rows c.args.row [] in
    let cell : Datum = datum_of c.cell_at.result in
    let ahead = cells-next cells k cell (cell_in rows k c.args.row cell c.requires.within c.cell_at.ensures) in
    told_on {whole = row_line cells} c.from_residual-in_err-write_cell.result _ (cells_from (k + 1) cells) c.from_residual-in_err-write_cell.ensures.0
    (more_written {whole = row_line cells} _ (cell_text cell ++ cells_from (k + 1) cells) c.loop-column.invariant ahead c.in_ok-write_text-2.ensures) refl c.in_err-write_cell.ensures

pub loop-column-preserved : goal.loop-column-preserved
loop-column-preserved g c =
    let rows : List (List Datum) = c.args.table.now.rows in
    let k : ℕ = c.loop-column.column in
    let cells : List Datum = get_or rows c.args.row [] in
    let cell : Datum = datum_of c.cell_at.result in
    let ahead = cells-next cells k cell (cell_in rows k c.args.row cell c.requires.within c.cell_at.ensures) in
    more_written {whole = row_line cells} _ (cells_from (k + 1) cells) (more_written {whole = row_line cells} _ (cell_text cell ++ cells_from (k + 1) cells) c.loop-column.invariant ahead c.in_ok-write_text-2.ensures) refl c.in_ok-write_cell.ensures

pub returns : goal.returns
returns g c =
    let k : ℕ = c.loop-column.column in
    let cells : List Datum = get_or c.args.table.now.rows c.args.row [] in
    let none : drop k cells ≡ [] = drop_all k cells (omega (arith, c.loop-column-test.false, c.columns-column-end.ensures, c.requires.fits.count)) in
    last_written c.write_text-2.result (subst (HasWritten _ _ _ _ (row_line cells)) (ap (λ cs. flat_map piece cs ++ 10 ∷ []) none) c.loop-column.invariant) c.write_text-2.ensures
