use Rattle.std.proofs.Common.{◌∙◌, ◌++◌, ◌∷◌, [], true, length, sym, ap, arith}
use Rattle.std.specs.Option.{option_copied}
use Rattle.column_store.specs.Nullable.{options_of}
use Rattle.column_store.proofs.Options.{length-options, options-append}
use Rattle.column_store.proofs.nullable_texts.NullableTexts.push.Goals as goal

pub push_reserved-requires : goal.push_reserved-requires
push_reserved-requires c =
    let s = c.mark_before.new.self in
    let ready = c.in_ok-reserve_marks-in-None.ensures in
    let marked = c.mark_before.ensures in
    omega (arith, s.paired, ready.ok, ap length ready.value, ap length marked.value, marked.room, length-options s.nulls.items s.texts)

pub returns-in_ok-push-in-None-clause-ok : goal.returns-in_ok-push-in-None-clause-ok
returns-in_ok-push-in-None-clause-ok c =
    let s = c.mark_before.new.self in
    let ready = c.in_ok-reserve_marks-in-None.ensures in
    let marked = c.mark_before.ensures in
    (λ i. options_of (c.push_reserved.ensures.items i) (c.in_ok-push-in-None.ensures.ok i))
    ∙ options-append s.nulls.items s.texts (true ∷ []) ([] ∷ []) (marked.all (omega arith))
    ∙ (λ i. (marked.value ∙ ready.value) i ++ option_copied (sym c.in-None.is i) ∷ [])
