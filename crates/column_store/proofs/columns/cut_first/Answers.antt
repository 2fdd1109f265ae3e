use Rattle.std.proofs.Common.{arith}
use Rattle.column_store.specs.ColumnChanges.{IsCut}
use Rattle.column_store.proofs.ColumnLoops.{one_more}
use Rattle.column_store.proofs.CutCells.{first_cut}
use Rattle.column_store.proofs.columns.cut_first.Goals as goal

pub loop-place-preserved : goal.loop-place-preserved
loop-place-preserved c =
    let done = c.truncate.ensures in
    one_more (λ _. IsCut c.args.rows) c.loop-place.place c.args.columns.now c.loop-place.columns c.index-columns-place.result c.truncate.new.self c.loop-place.invariant (omega arith)
    (record { ty = done.ty; cells = done.value; room = done.room })

pub returns : goal.returns
returns c = first_cut c.args.rows c.args.longer c.loop-place.place c.args.columns.now c.loop-place.columns c.loop-place.invariant (omega (arith, c.loop-place.auto.place-end)) c.requires.short
