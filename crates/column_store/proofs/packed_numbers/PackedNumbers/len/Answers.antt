use Rattle.std.proofs.Common.{arith}
use Rattle.value_types.specs.Packed.{packed_numbers}
use Rattle.column_store.proofs.Options.{length-options}
use Rattle.column_store.proofs.packed_numbers.PackedNumbers.len.Goals as goal

pub returns : goal.returns
returns c = let s = c.args.self.now in omega (arith, c.len.ensures, length-options s.nulls.items (packed_numbers s.packed))
