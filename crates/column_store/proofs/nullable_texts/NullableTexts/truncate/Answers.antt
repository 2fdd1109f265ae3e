use Rattle.std.proofs.Common.{◌∙◌}
use Rattle.column_store.specs.Nullable.{options_of}
use Rattle.column_store.proofs.Options.{options-take}
use Rattle.column_store.proofs.nullable_texts.NullableTexts.truncate.Goals as goal

pub returns-clause-value : goal.returns-clause-value
returns-clause-value c =
    let s = c.args.self.now in
    (λ i. options_of (c.truncate.ensures.items i) (c.truncate-2.ensures i)) ∙ options-take c.args.count s.nulls.items s.texts
