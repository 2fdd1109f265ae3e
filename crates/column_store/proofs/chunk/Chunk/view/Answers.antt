use Rattle.std.proofs.Common.{◌≡◌, ◌≤◌, ◌<◌, ◌∙◌, Some, length, take, ap, subst, sym, arith}
use Rattle.std.specs.Prelude.{slice_get}
use Rattle.value_types.specs.Views.{view_cells, HasRows}
use Rattle.column_store.specs.ChunkView.{ChunkView}
use Rattle.column_store.specs.ColumnCells.{cells_of}
use Rattle.column_store.specs.TableView.{column_of}
use Rattle.column_store.specs.ViewTypes.{type_of_view}
use Rattle.column_store.proofs.ColumnOf.{column_of_columns, type_of_columns}
use Rattle.column_store.proofs.Filled.{cells_at_least, columns_seen, rows_seen}
use Rattle.column_store.proofs.Rows.{length-rows_of}
use Rattle.column_store.proofs.ViewCells.{fewer}
use Rattle.column_store.proofs.chunk.Chunk.view.Goals as goal

pub returns-clause-cells : goal.returns-clause-cells
returns-clause-cells c =
    let s = c.self.inside in
    let long = cells_at_least c.self.invariant c.args.column c.index.result.now (omega (arith, c.requires, columns_seen c.self.invariant c.self.view_is)) in
    let count : s.rows ≤ length (cells_of c.index.result.now) = omega (arith, long, ap (λ column. length (cells_of column)) c.index.ensures) in
    let rows : s.rows ≡ length c.args.self.now.rows = rows_seen c.self.invariant c.self.view_is in
    (λ i. take (sym rows i) (c.view_of.ensures.cells i))
    ∙ column_of_columns s.columns.items c.args.column c.index.result.now (omega (arith, c.requires, columns_seen c.self.invariant c.self.view_is)) c.index.ensures s.rows count
    ∙ (λ i. column_of (c.self.view_is i).rows c.args.column)

pub returns-clause-long : goal.returns-clause-long
returns-clause-long c =
    let s = c.self.inside in
    let long = cells_at_least c.self.invariant c.args.column c.index.result.now (omega (arith, c.requires, columns_seen c.self.invariant c.self.view_is)) in
    let rows : s.rows ≡ length c.args.self.now.rows = rows_seen c.self.invariant c.self.view_is in
    fewer (length c.args.self.now.rows) (length (cells_of c.index.result.now)) c.view_of.result (omega (arith, long, rows, ap (λ column. length (cells_of column)) c.index.ensures))
    c.view_of.ensures.long

pub returns-clause-ty : goal.returns-clause-ty
returns-clause-ty c =
    let s = c.self.inside in
    subst (λ (chunk : ChunkView). slice_get chunk.types c.args.column ≡ Some (type_of_view c.view_of.result)) c.self.view_is
    (type_of_columns s.columns.items c.args.column c.index.result.now (omega (arith, c.requires, columns_seen c.self.invariant c.self.view_is)) c.index.ensures
    ∙ ap Some (sym c.view_of.ensures.ty))
