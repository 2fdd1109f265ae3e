use Rattle.std.proofs.Common.{arith}
use Rattle.column_store.proofs.Options.{length-options}
use Rattle.column_store.proofs.nullable.Nullable.reserve.Goals as goal

pub returns-clause-ok : goal.returns-clause-ok
returns-clause-ok g c = let s = c.args.self.now in omega (arith, c.in_ok-reserve.ensures.ok, c.in_ok-reserve-2.ensures.ok, length-options s.nulls.items s.values.items)
