use Rattle.std.proofs.Common.{◌∙◌, ◌∷◌, [], ap, arith}
use Rattle.column_store.specs.Nullable.{options_of}
use Rattle.column_store.proofs.Options.{length-options, options-behind}
use Rattle.column_store.proofs.nullable.Nullable.push_value.Goals as goal

pub push_reserved-requires : goal.push_reserved-requires
push_reserved-requires g c = let s = c.args.self.now in omega (arith, c.requires, length-options s.nulls.items s.values.items)

pub returns-clause-value : goal.returns-clause-value
returns-clause-value g c =
    let s = c.args.self.now in
    ap (options_of s.nulls.items) c.push_reserved.ensures.items ∙ options-behind s.nulls.items s.values.items (c.args.value ∷ []) s.paired

pub invariant_of-self : goal.invariant_of-self
invariant_of-self g c =
    let s = c.args.self.now in
    record {
      paired = omega (arith, s.paired, c.push_reserved.ensures.len);
      roomy = omega (arith, c.requires, length-options s.nulls.items s.values.items, c.push_reserved.ensures.len);
    }
