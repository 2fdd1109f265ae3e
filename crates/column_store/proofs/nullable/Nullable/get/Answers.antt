use Rattle.std.proofs.Common.{false, get_or, ap, ◌∙◌, arith}
use Rattle.column_store.proofs.Options.{length-options, null_at, value_at}
use Rattle.column_store.proofs.nullable.Nullable.get.Goals as goal

pub index-requires : goal.index-requires
index-requires g c = let s = c.args.self.now in omega (arith, length-options s.nulls.items s.values.items)

pub returns-then-is_marked : goal.returns-then-is_marked
returns-then-is_marked g c =
    let s = c.args.self.now in
    null_at s.nulls.items s.values.items c.args.row c.is_marked.result (omega (arith, length-options s.nulls.items s.values.items))
    (c.is_marked.ensures ∙ ap (λ nulls. get_or nulls c.args.row false) c.deref.ensures.value) c.if-is_marked.true

pub returns-else-is_marked : goal.returns-else-is_marked
returns-else-is_marked g c =
    let s = c.args.self.now in
    value_at s.nulls.items s.values.items c.args.row c.is_marked.result c.index.result.now (omega (arith, length-options s.nulls.items s.values.items))
    (c.is_marked.ensures ∙ ap (λ nulls. get_or nulls c.args.row false) c.deref.ensures.value) c.if-is_marked.false c.index.ensures
