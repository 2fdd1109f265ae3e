use Rattle.std.proofs.Common.{ℕ, Bool, false, List, get_or, refl, sym, ap, ◌∙◌, arith, inl, inr}
use Rattle.std.proofs.lemmas.Bool.{cases_lt}
use Rattle.byte_classes.specs.Class.{class_of}
use Rattle.byte_classes.specs.Special.{is_special, is_one_of}
use Rattle.byte_classes.proofs.BitLaws.{lowest_set, none_set}
use Rattle.byte_classes.proofs.SearchLaws.{first_place-is, first_place-further}
use Rattle.byte_classes.proofs.SpecialLaws.{special_outside, found_alike}
use Rattle.byte_classes.proofs.special.next_far_outside.Goals as goal

pub returns-then-ends-ne0 : goal.returns-then-ends-ne0
returns-then-ends-ne0 c =
    let d = c.args.dialect.now in
    let bytes : List ℕ = c.args.bytes.now in
    let at = c.loop-at.at in
    let ends : ℕ → Bool = λ b. is_special false (class_of d b) in
    let h = lowest_set ends bytes at c.ends_outside-ends.result c.ends_outside-ends.ensures c.ends_outside-ends.type_inv c.if-ends-ne0.true in
    sym (first_place-is (λ k. ends (get_or bytes k 0)) c.args.from _ bytes (omega (arith, c.loop-at.invariant.low)) (omega (arith, h.0, c.loop-at-test.true))
    (λ k low lt. elim (cases_lt k at) [ inl early ↦ c.loop-at.invariant.before k low early | inr late ↦ h.2 k late lt ]) (λ inside. h.1))

pub loop-at-preserved : goal.loop-at-preserved
loop-at-preserved c =
    let d = c.args.dialect.now in
    let bytes : List ℕ = c.args.bytes.now in
    let at = c.loop-at.at in
    let ends : ℕ → Bool = λ b. is_special false (class_of d b) in
    record {
      low = omega (arith, c.loop-at.invariant.low);
      high = omega (arith, c.loop-at-test.true);
      before = λ k low lt. elim (cases_lt k at) [
        | inl early ↦ c.loop-at.invariant.before k low early
        | inr late ↦ none_set ends bytes at c.ends_outside-ends.result c.ends_outside-ends.ensures c.if-ends-ne0.false k late lt
      ];
    }

pub returns : goal.returns
returns c =
    let d = c.args.dialect.now in
    let bytes : List ℕ = c.args.bytes.now in
    first_place-further (λ k. is_special false (class_of d (get_or bytes k 0))) c.args.from c.loop-at.at _ bytes c.loop-at.invariant.low c.loop-at.invariant.high c.loop-at.invariant.before
    (found_alike d bytes c.loop-at.at false false (is_one_of 10 13 c.delim.result) _ refl
    (λ b. special_outside d b ∙ ap (λ (m : ℕ). is_one_of 10 13 m b) (sym c.delim.ensures)) c.next_of.ensures)
