use Rattle.std.proofs.Common.{◌∙◌}
use Rattle.value_types.specs.Packed.{packed_numbers}
use Rattle.column_store.specs.Nullable.{options_of}
use Rattle.column_store.proofs.Options.{options-take}
use Rattle.column_store.proofs.packed_numbers.PackedNumbers.truncate.Goals as goal

pub returns : goal.returns
returns c =
    let s = c.args.self.now in
    (λ i. options_of (c.truncate.ensures.items i) (c.truncate-2.ensures i)) ∙ options-take c.args.count s.nulls.items (packed_numbers s.packed)
