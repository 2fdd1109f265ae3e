use Rattle.std.proofs.Common.{◌∙◌, ◌++◌, arith, length, ap}
use Rattle.std.proofs.lemmas.List.{length-append}
use Rattle.column_store.specs.Nullable.{options_of}
use Rattle.column_store.proofs.Options.{options-appended, length-options}
use Rattle.column_store.proofs.nullable.Nullable.append.Goals as goal

pub invariant_of-self-2 : goal.invariant_of-self-2
invariant_of-self-2 g c =
    let s = c.mark_before.new.self in
    let o = c.args.other.now in
    let ready = c.in_ok-reserve.ensures in
    let marked = c.mark_before.ensures in
    let long = length-options s.nulls.items s.values.items in
    let more = length-options o.nulls.items o.values.items in
    let ok = c.extend_from_slice-2.ensures.succeeds (omega (arith, ready.ok, c.len.ensures, ap length ready.value, ap length marked.value, marked.room, long, more)) in
    let marks = rw length-append at (ap length c.in_ok-extend_from_slice.ensures.items) in
    let values = rw ok at c.extend_from_slice-2.ensures.len in
    record {
      paired = omega (arith, marks, values, s.paired, o.paired, ap length c.deref.ensures.value);
      roomy = omega (arith, values, ready.ok, c.len.ensures, ap length ready.value, ap length marked.value, marked.room, long, more, c.extend_from_slice.ensures.capacity);
    }

pub returns-clause-ok : goal.returns-clause-ok
returns-clause-ok g c =
    let s = c.mark_before.new.self in
    let marked = c.mark_before.ensures in
    (λ i. options_of (c.in_ok-extend_from_slice.ensures.items i) (c.in_ok-extend_from_slice-2.ensures.items i))
    ∙ options-appended s.nulls.items s.values.items c.deref.result.now c.deref-2.result.now s.paired
    (λ some. marked.all (omega (arith, some, c.len-2.ensures, ap length c.deref.ensures.value)))
    ∙ (λ i. (marked.value ∙ c.in_ok-reserve.ensures.value) i ++ options_of (c.deref.ensures.value i) (c.deref-2.ensures.value i))
