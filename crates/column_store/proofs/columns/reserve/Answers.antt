use Rattle.std.proofs.Common.{◌+◌, arith, ap, length, refl}
use Rattle.column_store.specs.ColumnChanges.{IsReserved, KeepsCells}
use Rattle.column_store.proofs.ColumnLoops.{one_more, so_far_weaker, those_at_least}
use Rattle.column_store.proofs.columns.reserve.Goals as goal

pub returns-in_err-reserve-clause-same : goal.returns-in_err-reserve-clause-same
returns-in_err-reserve-clause-same c =
    let done = c.reserve.ensures in
    those_at_least (λ _. KeepsCells) (c.loop-place.place + 1) c.args.columns.now _
    (one_more (λ _. KeepsCells) c.loop-place.place c.args.columns.now c.loop-place.columns c.index-columns-place.result c.reserve.new.self
    (so_far_weaker (λ _. IsReserved c.args.more) (λ _. KeepsCells) (λ _ _ _ r. r.keeps) c.loop-place.place c.args.columns.now c.loop-place.columns c.loop-place.invariant) (omega arith)
    (record { ty = done.ty; cells = done.value; room = done.room }))
    (λ _ _. record { ty = refl; cells = refl; room = omega arith })

pub loop-place-preserved : goal.loop-place-preserved
loop-place-preserved c =
    let done = c.reserve.ensures in
    one_more (λ _. IsReserved c.args.more) c.loop-place.place c.args.columns.now c.loop-place.columns c.index-columns-place.result c.reserve.new.self c.loop-place.invariant (omega arith)
    (record { keeps = record { ty = done.ty; cells = done.value; room = done.room }; room = omega (arith, c.in_ok-reserve.ensures.ok, ap length done.value) })
