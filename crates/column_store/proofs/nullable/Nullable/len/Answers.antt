use Rattle.std.proofs.Common.{arith}
use Rattle.column_store.proofs.Options.{length-options}
use Rattle.column_store.proofs.nullable.Nullable.len.Goals as goal

pub returns : goal.returns
returns g c = let s = c.args.self.now in omega (arith, length-options s.nulls.items s.values.items)
