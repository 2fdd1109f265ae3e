use Rattle.std.proofs.Common.{◌≡◌, arith}
use Rattle.column_store.proofs.Filled.{rows_seen}
use Rattle.column_store.proofs.chunk.Chunk.spare.Goals as goal

pub returns-clause-countable : goal.returns-clause-countable
returns-clause-countable c =
    let spare : c.self.inside.spare ≡ c.args.self.now.spare = λ i. (c.self.view_is i).spare in
    omega (arith, rows_seen c.self.invariant c.self.view_is, c.self.invariant.countable)
