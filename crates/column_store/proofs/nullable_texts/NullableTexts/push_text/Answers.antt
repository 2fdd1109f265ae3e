use Rattle.std.proofs.Common.{◌≡◌, ◌∙◌, ℕ, ◌+◌, ◌≤◌, List, ◌++◌, ◌∷◌, [], Result, Ok, Err, Some, length, ap, arith}
use Rattle.std.specs.Prelude.{OnErr, OnOk}
use Rattle.std.proofs.lemmas.List.{length-append}
use Rattle.column_store.specs.Nullable.{options_of}
use Rattle.column_store.proofs.Options.{length-options, options-behind}
use Rattle.column_store.proofs.nullable_texts.NullableTexts.push_text.Goals as goal

pub returns-clause-ok : goal.returns-clause-ok
returns-clause-ok c =
    let s = c.reserve_marks.new.self in
    ap (options_of s.nulls.items) c.in_ok-push.ensures.ok
    ∙ options-behind s.nulls.items s.texts (c.args.text.now ∷ []) s.paired
    ∙ ap (λ texts. texts ++ Some c.args.text.now ∷ []) c.in_ok-reserve_marks.ensures.value

-- one text more at most
one_more : {A B : Type 0} (result : Result A B) (old new : List (List ℕ)) (text : List ℕ) → OnOk result (new ≡ old ++ text ∷ []) → OnErr result (new ≡ old)
    → (length old ≤ length new) × (length new ≤ length old + 1)
one_more (Ok a) old new text ok err = let more = rw length-append at (ap length ok) in (omega (arith, more), omega (arith, more))
one_more (Err b) old new text ok err = let same = ap length err in (omega (arith, same), omega (arith, same))

pub invariant_of-self : goal.invariant_of-self
invariant_of-self c =
    let s = c.reserve_marks.new.self in
    let ready = c.in_ok-reserve_marks.ensures in
    let long = length-options s.nulls.items s.texts in
    let more = one_more c.push.result s.texts c.push.new.self c.args.text.now c.push.ensures.ok c.push.ensures.err in
    record {
      paired = omega (arith, s.paired, more.0);
      roomy = omega (arith, ready.ok, ap length ready.value, long, more.1);
    }
