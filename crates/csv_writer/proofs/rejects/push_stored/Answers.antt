use Rattle.std.proofs.Common.{◌≡◌, ◌+◌, ℕ, zero, suc, List, [], ◌∷◌, ◌++◌, Some, take, ap, sym, ◌∙◌, append_assoc, append-nil, arith}
use Rattle.std.specs.Prelude.{flat_map, slice_get}
use Rattle.reject_book.specs.declared.reject.Reject.{Reject}
use Rattle.csv_writer.specs.WrittenRejects.{reject_line}
use Rattle.csv_writer.proofs.rejects.push_stored.Goals as goal

one_more : (rejects : List Reject) (k : ℕ) (r : Reject) → slice_get rejects k ≡ Some r → flat_map reject_line (take (suc k) rejects) ≡ flat_map reject_line (take k rejects) ++ reject_line r
one_more [] k r at = absurd (let none : ⊥ = cc in none)
one_more (x ∷ rejects) zero r at = let same : x ≡ r = cc in append-nil (reject_line x) ∙ ap reject_line same
one_more (x ∷ rejects) (suc k) r at =
    ap (λ rest. reject_line x ++ rest) (one_more rejects k r at) ∙ sym (append_assoc (reject_line x) (flat_map reject_line (take k rejects)) (reject_line r))

pub loop-index-preserved : goal.loop-index-preserved
loop-index-preserved c =
    let before : List ℕ = c.args.into.now.text in
    let rejects : List Reject = c.args.book.now.stored in
    let k : ℕ = c.loop-index.index in
    let one : suc k ≡ k + 1 = omega arith in
    c.in_ok-push_reject.ensures ∙ ap (λ xs. xs ++ reject_line c.get.result.now) c.loop-index.invariant
    ∙ append_assoc before (flat_map reject_line (take k rejects)) (reject_line c.get.result.now)
    ∙ ap (λ xs. before ++ xs) (sym (one_more rejects k c.get.result.now c.get.ensures)) ∙ ap (λ n. before ++ flat_map reject_line (take n rejects)) one
