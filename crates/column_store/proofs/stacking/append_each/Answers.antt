use Rattle.std.proofs.Common.{◌∙◌, arith, take}
use Rattle.std.proofs.lemmas.List.{length-append}
use Rattle.column_store.specs.Stacked.{rows_in}
use Rattle.column_store.proofs.Filled.{on_err}
use Rattle.column_store.proofs.Stack.{rows_in_front}
use Rattle.column_store.proofs.stacking.append_each.Goals as goal

pub returns-in_err-append-clause-err : goal.returns-in_err-append-clause-err
returns-in_err-append-clause-err c =
    let front = take c.loop-chunk.chunk-index c.args.earlier.now in
    on_err c.from_residual.result
    (rows_in front, omega (arith, rows_in_front c.loop-chunk.chunk-index c.args.earlier.now, length-append (rows_in c.args.earlier.now) c.args.last.now.rows), c.in_err-append.ensures.err ∙ c.loop-chunk.invariant)
