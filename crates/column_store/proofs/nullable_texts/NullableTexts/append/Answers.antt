use Rattle.std.proofs.Common.{◌∙◌, ◌++◌, arith, length, ap}
use Rattle.std.proofs.lemmas.Bool.{false≢true}
use Rattle.std.proofs.lemmas.List.{length-append}
use Rattle.column_store.specs.Nullable.{options_of}
use Rattle.column_store.proofs.Options.{length-options, options-appended}
use Rattle.column_store.proofs.nullable_texts.NullableTexts.append.Goals as goal

pub returns-in_err-extend_from_slice-clause-err : goal.returns-in_err-extend_from_slice-clause-err
returns-in_err-extend_from_slice-clause-err c =
    let s = c.mark_before.new.self in
    let o = c.args.other.now in
    let ready = c.in_ok-reserve_marks.ensures in
    let marked = c.mark_before.ensures in
    absurd (false≢true (c.in_err-extend_from_slice.ensures.succeeds
    (omega (arith, s.paired, o.paired, length-options o.nulls.items o.texts, ready.ok, c.len.ensures, ap length ready.value, ap length marked.value, marked.room, length-options s.nulls.items s.texts, ap length c.deref.ensures.value))))

pub returns-clause-ok : goal.returns-clause-ok
returns-clause-ok c =
    let s = c.mark_before.new.self in
    let o = c.args.other.now in
    let marked = c.mark_before.ensures in
    (λ i. options_of ((c.in_ok-extend_from_slice.ensures.items ∙ ap (λ marks. s.nulls.items ++ marks) c.deref.ensures.value) i) (c.in_ok-append.ensures.ok i))
    ∙ options-appended s.nulls.items s.texts o.nulls.items o.texts s.paired (λ some. marked.all (omega (arith, some, c.len-2.ensures)))
    ∙ ap (λ texts. texts ++ options_of o.nulls.items o.texts) (marked.value ∙ c.in_ok-reserve_marks.ensures.value)

pub invariant_of-self-2 : goal.invariant_of-self-2
invariant_of-self-2 c =
    let s = c.mark_before.new.self in
    let o = c.args.other.now in
    let ready = c.in_ok-reserve_marks.ensures in
    let marked = c.mark_before.ensures in
    let all = rw length-append at (ap length c.in_ok-append.ensures.ok) in
    let ok = c.extend_from_slice.ensures.succeeds
    (omega (arith, s.paired, o.paired, length-options o.nulls.items o.texts, ready.ok, c.len.ensures, ap length ready.value, ap length marked.value, marked.room, length-options s.nulls.items s.texts, ap length c.deref.ensures.value)) in
    let marks = rw ok at c.extend_from_slice.ensures.len in
    record {
      paired = omega (arith, all, marks, s.paired, o.paired, ap length c.deref.ensures.value);
      roomy = omega (arith, all, ready.ok, c.len.ensures, ap length ready.value, ap length marked.value, marked.room, length-options s.nulls.items s.texts, length-options o.nulls.items o.texts, c.extend_from_slice.ensures.capacity);
    }
