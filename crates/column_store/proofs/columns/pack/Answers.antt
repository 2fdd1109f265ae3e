use Rattle.std.proofs.Common.{arith}
use Rattle.column_store.specs.ColumnChanges.{HasCells}
use Rattle.column_store.proofs.ColumnLoops.{one_more}
use Rattle.column_store.proofs.columns.pack.Goals as goal

pub loop-place-preserved : goal.loop-place-preserved
loop-place-preserved c =
    let done = c.pack.ensures in
    one_more (λ _. HasCells) c.loop-place.place c.args.columns.now c.loop-place.columns c.index-columns-place.result c.pack.new.self c.loop-place.invariant (omega arith)
    (record { ty = done.ty; cells = done.value })
