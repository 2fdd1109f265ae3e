use Rattle.std.proofs.Common.{◌∙◌, ◌++◌, ◌∷◌, [], arith}
use Rattle.value_types.specs.Datum.{datum_of}
use Rattle.column_store.proofs.Filled.{same_view}
use Rattle.column_store.proofs.NextCells.{fits_next, row_ended, take_next}
use Rattle.column_store.proofs.chunk.Chunk.push_cells.Goals as goal

pub push_cell-requires : goal.push_cell-requires
push_cell-requires c =
    let so = c.loop-column.invariant in
    fits_next c.args.self.now.types c.args.cells.now c.loop-column.column (datum_of c.get.result) c.loop-column.self.types c.loop-column.self.unfinished (λ i. (so i).types) (λ i. (so i).unfinished) (omega arith) c.requires.fits c.get.ensures

pub loop-column-preserved : goal.loop-column-preserved
loop-column-preserved c =
    let so = c.loop-column.invariant in
    c.in_ok-push_cell.ensures.ok
    ∙ same_view (λ i. (so i).types) (λ i. (so i).rows) ((λ i. (so i).unfinished ++ datum_of c.get.result ∷ []) ∙ take_next c.args.cells.now c.loop-column.column (datum_of c.get.result) c.get.ensures) (λ i. (so i).spare)

pub finish_row-requires : goal.finish_row-requires
finish_row-requires c =
    let so = c.loop-column.invariant in
    row_ended c.args.self.now.types c.args.cells.now c.loop-column.column c.loop-column.self.types c.loop-column.self.unfinished (λ i. (so i).types) (λ i. (so i).unfinished) (omega arith) c.requires.fits
