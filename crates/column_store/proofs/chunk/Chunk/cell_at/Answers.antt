use Rattle.std.proofs.Common.{◌∙◌, sym, ap, arith, length}
use Rattle.value_types.specs.Datum.{datum_of}
use Rattle.column_store.specs.ColumnCells.{cells_of}
use Rattle.column_store.specs.TableView.{cell_of}
use Rattle.column_store.proofs.Rows.{cell_of_columns}
use Rattle.column_store.proofs.Filled.{cells_at_least, columns_seen, rows_seen}
use Rattle.column_store.proofs.chunk.Chunk.cell_at.Goals as goal

pub get-requires : goal.get-requires
get-requires c =
    let there = cells_at_least c.self.invariant c.args.column c.index.result.now (omega (arith, c.requires.column, columns_seen c.self.invariant c.self.view_is)) in
    let same = ap (λ column. length (cells_of column)) c.index.ensures in
    omega (arith, c.requires.row, rows_seen c.self.invariant c.self.view_is)

pub returns : goal.returns
returns c =
    let s = c.self.inside in
    sym (λ i. cell_of (c.self.view_is i).rows c.args.column c.args.row)
    ∙ cell_of_columns s.columns.items s.rows c.args.column c.args.row c.index.result.now (datum_of c.get.result) (omega (arith, c.requires.column, columns_seen c.self.invariant c.self.view_is))
    (omega (arith, c.requires.row, rows_seen c.self.invariant c.self.view_is)) c.index.ensures c.get.ensures
