use Rattle.std.proofs.Common.{arith}
use Rattle.column_store.proofs.ViewCells.{view_more, long_more, all_views}
use Rattle.column_store.proofs.chunk.views.views_of.Goals as goal

pub loop-column-preserved : goal.loop-column-preserved
loop-column-preserved c =
    record {
      cells = view_more c.args.columns.now c.loop-column.column-index c.column-item.result c.loop-column.views.items _ _ (omega arith) c.column-item.is c.loop-column.invariant.cells
          c.view_of.ensures.cells c.in_ok-push.ensures.items;
      long = long_more _ _ _ _ c.loop-column.invariant.long c.view_of.ensures.cells c.view_of.ensures.long c.in_ok-push.ensures.items;
    }

pub returns : goal.returns
returns c = record {
  cells = all_views c.args.columns.now c.loop-column.column-index c.loop-column.views.items (omega arith) c.loop-column.invariant.cells;
  long = c.loop-column.invariant.long;
}
