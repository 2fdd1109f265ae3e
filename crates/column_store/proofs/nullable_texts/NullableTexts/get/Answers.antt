use Rattle.std.proofs.Common.{false, get_or, ap, ◌∙◌, sym, arith}
use Rattle.std.proofs.lemmas.Option.{get_or_from_slice_get}
use Rattle.column_store.proofs.Options.{length-options, null_at, value_at}
use Rattle.column_store.proofs.nullable_texts.NullableTexts.get.Goals as goal

pub get-requires : goal.get-requires
get-requires c = let s = c.args.self.now in omega (arith, length-options s.nulls.items s.texts)

pub returns-then-is_marked : goal.returns-then-is_marked
returns-then-is_marked c =
    let s = c.args.self.now in
    null_at s.nulls.items s.texts c.args.row c.is_marked.result (omega (arith, length-options s.nulls.items s.texts))
    (c.is_marked.ensures ∙ ap (λ nulls. get_or nulls c.args.row false) c.deref.ensures.value) c.if-is_marked.true

pub returns-else-is_marked : goal.returns-else-is_marked
returns-else-is_marked c =
    let s = c.args.self.now in
    value_at s.nulls.items s.texts c.args.row c.is_marked.result c.get.result.now (omega (arith, length-options s.nulls.items s.texts))
    (c.is_marked.ensures ∙ ap (λ nulls. get_or nulls c.args.row false) c.deref.ensures.value) c.if-is_marked.false
    (sym (get_or_from_slice_get s.texts c.args.row c.get.result.now c.get.result.now c.get.ensures))
