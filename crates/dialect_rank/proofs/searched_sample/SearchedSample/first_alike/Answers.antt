use Rattle.std.proofs.Common.{◌≡◌, ℕ, ◌+◌, ◌<◌, Bool, false, List, get_or, Some, slice_get, sym, ap, ◌∙◌, inl, inr, arith}
use Rattle.std.proofs.lemmas.Bool.{cases_lt}
use Rattle.std.proofs.lemmas.List.Sums.{position_or_len_is}
use Rattle.std.proofs.lemmas.Option.{get_or_from_slice_get, slice_get_within}
use Rattle.byte_classes.specs.Dialect.{Marks}
use Rattle.dialect_rank.specs.Alike.{reads_alike}
use Rattle.dialect_rank.proofs.searched_sample.SearchedSample.first_alike.Goals as goal

-- the next one doesn't pass either
none_more : (p : Marks → Bool) (cs : List Marks) (d x : Marks) (index : ℕ) → ((k : ℕ) → k < index → p (get_or cs k d) ≡ false) → slice_get cs index ≡ Some x → p x ≡ false →
    (k : ℕ) → k < index + 1 → p (get_or cs k d) ≡ false
none_more p cs d x index none at fails k lt = elim (cases_lt k index) [
  | inl before ↦ none k before
  | inr le ↦
      let same : k ≡ index = omega (arith, lt, le) in
      ap (λ k. p (get_or cs k d)) same ∙ ap p (get_or_from_slice_get cs index x d at) ∙ fails
]

pub returns-then-reads_alike-clause-value : goal.returns-then-reads_alike-clause-value
returns-then-reads_alike-clause-value c =
    let d = c.args.dialect.now in
    let bytes = c.args.self.now.bytes.now in
    let cs = c.args.candidates.now in
    let x = c.get.result in
    let h = c.loop-index.invariant in
    let passes = ap (λ bytes. reads_alike bytes x d) (sym h.bytes) ∙ sym c.reads_alike.ensures.value ∙ c.if-reads_alike.true in
    let within = slice_get_within cs c.loop-index.index x c.get.ensures in
    sym (position_or_len_is (λ other. reads_alike bytes other d) cs c.loop-index.index d (omega (arith, within)) h.none
    (λ _. ap (λ x. reads_alike bytes x d) (get_or_from_slice_get cs c.loop-index.index x d c.get.ensures) ∙ passes))

pub loop-index-preserved : goal.loop-index-preserved
loop-index-preserved c =
    let d = c.args.dialect.now in
    let bytes = c.args.self.now.bytes.now in
    let x = c.get.result in
    let h = c.loop-index.invariant in
    let now = c.reads_alike.ensures in
    let fails = ap (λ bytes. reads_alike bytes x d) (sym h.bytes) ∙ sym now.value ∙ c.if-reads_alike.false in
    record {
      none = none_more (λ other. reads_alike bytes other d) c.args.candidates.now d x c.loop-index.index h.none c.get.ensures fails;
      bytes = now.bytes ∙ h.bytes;
      whole = now.whole ∙ h.whole;
      size = now.size ∙ h.size;
    }

pub returns-clause-value : goal.returns-clause-value
returns-clause-value c =
    let d = c.args.dialect.now in
    let bytes = c.args.self.now.bytes.now in
    let long = c.len.ensures in
    sym (position_or_len_is (λ other. reads_alike bytes other d) c.args.candidates.now c.len.result d (omega (arith, long))
    (λ k lt. c.loop-index.invariant.none k (omega (arith, lt, long, c.loop-index-test.false, c.len-index-end.ensures)))
    (λ lt. absurd (let no : ⊥ = omega (arith, lt, long) in no)))
