use Rattle.std.proofs.Common.{◌≡◌, ◌∙◌, length, map, ap, subst}
use Rattle.std.specs.Prelude.{All}
use Rattle.value_types.specs.Views.{view_rows, HasRows}
use Rattle.column_store.specs.ColumnCells.{cells_of}
use Rattle.column_store.specs.ChunkView.{ChunkView}
use Rattle.column_store.proofs.ViewCells.{rows_are, rows_long}
use Rattle.column_store.proofs.chunk.Chunk.views.Goals as goal

pub returns-clause-rows : goal.returns-clause-rows
returns-clause-rows c =
    let s = c.self.inside in
    subst (λ (chunk : ChunkView). view_rows c.in_ok-views.views.items (length chunk.rows) ≡ chunk.rows) c.self.view_is
    (rows_are s.columns.items s.rows s.begun s.spare c.self.invariant c.in_ok-views.views.items (c.in_ok-views.ensures.cells ∙ ap (map cells_of) c.deref.ensures.value))

pub returns-clause-long : goal.returns-clause-long
returns-clause-long c =
    let s = c.self.inside in
    subst (λ (chunk : ChunkView). All (HasRows (length chunk.rows)) c.in_ok-views.views.items) c.self.view_is
    (rows_long s.columns.items s.rows s.begun s.spare c.self.invariant c.in_ok-views.views.items (c.in_ok-views.ensures.cells ∙ ap (map cells_of) c.deref.ensures.value)
    c.in_ok-views.ensures.long)
