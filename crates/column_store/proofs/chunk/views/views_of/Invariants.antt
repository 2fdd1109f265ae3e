use Rattle.std.proofs.Common.{◌≡◌, map, take, length}
use Rattle.std.specs.Prelude.{All}
use Rattle.value_types.specs.Views.{view_cells, HasRows}
use Rattle.column_store.specs.ColumnCells.{cells_of}
use Rattle.column_store.proofs.chunk.views.views_of.Given as goal

-- the views of the columns so far
abbrev pub invariant-loop-column : goal.invariant-loop-column
invariant-loop-column l =
    record {
      cells : map view_cells l.views.items ≡ map cells_of (take l.column-index l.columns);
      long : All (λ view. HasRows (length (view_cells view)) view) l.views.items;
    }
