use Rattle.std.proofs.Common.{◌∙◌, ◌++◌, ◌∷◌, [], true, length, sym, ap, arith}
use Rattle.column_store.specs.Nullable.{options, options_of}
use Rattle.column_store.proofs.Options.{length-options, options-append, options-behind}
use Rattle.column_store.proofs.nullable.Nullable.push_reserved.Goals as goal

pub push_reserved-requires : goal.push_reserved-requires
push_reserved-requires g c = let s = c.args.self.now in omega (arith, c.requires, length-options s.nulls.items s.values.items)

pub push_reserved-requires-in-None : goal.push_reserved-requires-in-None
push_reserved-requires-in-None g c =
    let s = c.mark_before.new.self in
    let marked = c.mark_before.ensures in
    omega (arith, c.requires, s.paired, ap length marked.value, marked.room, length-options s.nulls.items s.values.items)

pub push_reserved-requires-in-None-2 : goal.push_reserved-requires-in-None-2
push_reserved-requires-in-None-2 g c =
    let s = c.mark_before.new.self in
    let marked = c.mark_before.ensures in
    omega (arith, c.requires, ap length marked.value, marked.room, length-options s.nulls.items s.values.items)

pub returns-in-Some-clause-value : goal.returns-in-Some-clause-value
returns-in-Some-clause-value g c =
    let s = c.args.self.now in
    ap (options_of s.nulls.items) c.push_reserved.ensures.items
    ∙ options-behind s.nulls.items s.values.items (c.in-Some.value ∷ []) s.paired
    ∙ (λ i. options s ++ sym c.in-Some.is i ∷ [])

pub returns-in-None-clause-value : goal.returns-in-None-clause-value
returns-in-None-clause-value g c =
    let s = c.mark_before.new.self in
    let marked = c.mark_before.ensures in
    (λ i. options_of (c.push_reserved-in-None.ensures.items i) (c.push_reserved-in-None-2.ensures.items i))
    ∙ options-append s.nulls.items s.values.items (true ∷ []) (_ ∷ []) (marked.all (omega arith))
    ∙ (λ i. marked.value i ++ sym c.in-None.is i ∷ [])

pub invariant_of-self : goal.invariant_of-self
invariant_of-self g c =
    let s = c.args.self.now in
    let long = length-options s.nulls.items s.values.items in
    record {
      paired = omega (arith, s.paired, c.push_reserved.ensures.len);
      roomy = omega (arith, c.requires, long, c.push_reserved.ensures.len);
    }
