use Rattle.std.proofs.Common.{◌≡◌, ◌∙◌, ◌++◌, List, ℕ, Result, Ok, Err, ap, arith, length}
use Rattle.std.specs.Prelude.{OnErr, OnOk}
use Rattle.std.proofs.lemmas.Result.{on_ok_weaker}
use Rattle.value_types.specs.Texts.{on_last}
use Rattle.value_types.proofs.OnLast.{length-on_last}
use Rattle.column_store.specs.Nullable.{options_of}
use Rattle.column_store.proofs.Options.{length-options, options-last}
use Rattle.column_store.proofs.nullable_texts.NullableTexts.extend_last.Goals as goal

pub extend_last-requires : goal.extend_last-requires
extend_last-requires c = let s = c.args.self.now in omega (arith, c.requires.some, length-options s.nulls.items s.texts)

-- as many texts as before
as_many : {A B : Type 0} (result : Result A B) (old new : List (List ℕ)) (more : List ℕ) → OnOk result (new ≡ on_last (λ text. text ++ more) old) → OnErr result (new ≡ old) → length new ≡ length old
as_many (Ok a) old new more ok err = ap length ok ∙ length-on_last (λ text. text ++ more) old
as_many (Err b) old new more ok err = ap length err

pub invariant_of-self : goal.invariant_of-self
invariant_of-self c =
    let s = c.args.self.now in
    let same = as_many c.extend_last.result s.texts c.extend_last.new.self c.args.more.now c.extend_last.ensures.ok c.extend_last.ensures.err in
    record { paired = omega (arith, s.paired, same); roomy = omega (arith, s.roomy, same) }

pub returns-clause-ok : goal.returns-clause-ok
returns-clause-ok c =
    let s = c.args.self.now in
    let change : List ℕ → List ℕ = λ text. text ++ c.args.more.now in
    on_ok_weaker c.extend_last.result (λ is. ap (options_of s.nulls.items) is ∙ options-last change s.nulls.items s.texts) c.extend_last.ensures.ok
