-- Rows that are counted up to a place, and on.
use Rattle.std.proofs.Common.{◌≡◌, ℕ, ◌+◌, ◌<◌, ◌≤◌, false, cond, List, drop, length, get_or, refl, sym, ◌∙◌, ap, arith, zero, suc, not, ◌&&◌, ◌||◌, zero-add, ◌-◌}
use Rattle.std.specs.Prelude.{◌==◌}
use Rattle.std.proofs.lemmas.List.{drop_more}
use Rattle.std.proofs.lemmas.Simd.{length-chunk}
use lib.Lanes.{chunk}
use Rattle.byte_classes.specs.Class.{class_of, is_line_end}
use Rattle.byte_classes.specs.Dialect.{Marks}
use Rattle.quote_automaton.specs.declared.state.State.{State}
use Rattle.quote_automaton.specs.Automaton.{state_after}
use Rattle.quote_automaton.specs.Runs.{IsQuiet}
use Rattle.quote_automaton.proofs.CountedLaws.{state_passed}
use Rattle.quote_automaton.proofs.Running.{state_along}
use Rattle.part_cuts.specs.declared.cut_rule.CutRule.{CutRule}
use Rattle.part_cuts.specs.declared.row_count.Counted.{Counted}
use Rattle.part_cuts.specs.Counted.{GoesOn}
use Rattle.part_cuts.specs.Cut.{counts_row}
use Rattle.part_cuts.specs.Passed.{rows_begun}
use Rattle.part_cuts.proofs.BlockRows.{rows_begun-le, rows_passed}

pub goes_further : (rule : CutRule) (bytes : List ℕ) (a b c : Counted) → GoesOn rule bytes a b → GoesOn rule bytes b c → GoesOn rule bytes a c
goes_further rule bytes a b c ab bc = record {
  low = omega (arith, ab.low, bc.low);
  high = bc.high;
  few = omega (arith, ab.few, bc.few);
  after = bc.after ∙ ab.after;
  rows = bc.rows ∙ ab.rows;
}

-- over a block
pub goes_on_block : (rule : CutRule) (bytes : List ℕ) (old : Counted) (s : State) (more : ℕ) → old.at + 64 ≤ length bytes → state_after rule.dialect old.state (chunk old.at 64 bytes) ≡ s →
    more ≡ rows_begun rule.dialect rule.columns old.state (chunk old.at 64 bytes) → GoesOn rule bytes old (record { at = old.at + 64; state = s; rows = old.rows + more })
goes_on_block rule bytes old s more room behind is_more =
    let d = rule.dialect in
    let few : more ≤ 64 = (let le = rows_begun-le d rule.columns old.state (chunk old.at 64 bytes) in let long = length-chunk old.at 64 bytes room in omega (arith, is_more, le, long)) in
    let all : rows_begun d rule.columns old.state (drop old.at bytes) ≡ more + rows_begun d rule.columns s (drop (old.at + 64) bytes) =
    rows_passed d rule.columns old.state s bytes old.at 64 behind ∙ ap (λ n. n + rows_begun d rule.columns s (drop (old.at + 64) bytes)) (sym is_more) in
    record { low = omega arith; high = room; few = omega (arith, few); after = sym (state_passed d old.state s bytes old.at 64 behind); rows = omega (arith, all) }

-- over a run of bytes that change nothing
quiet_rows : (d : Marks) (columns : ℕ) (s : State) (bytes : List ℕ) (n at : ℕ) → at + n ≤ length bytes → ((k : ℕ) → at ≤ k → k < at + n → IsQuiet d s (get_or bytes k 0)) →
    rows_begun d columns s (drop at bytes) ≡ rows_begun d columns s (drop (at + n) bytes)
quiet_rows d columns s bytes zero at room quiet = let same : at ≡ at + 0 = omega arith in ap (λ k. rows_begun d columns s (drop k bytes)) same
quiet_rows d columns s bytes (suc n) at room quiet =
    let b : ℕ = get_or bytes at 0 in
    let rest : List ℕ = drop (at + 1) bytes in
    let here : IsQuiet d s b = quiet at (omega arith) (omega arith) in
    let none : counts_row columns s (class_of d b) ≡ false = ap (λ t. t && (not (is_line_end (class_of d b)) || columns == 1)) here.begins in
    let far : (at + 1) + n ≡ at + suc n = omega arith in
    ap (rows_begun d columns s) (drop_more bytes at 0 (omega (arith, room)))
    ∙ (λ i. cond (none i) 1 0 + rows_begun d columns (here.stays i) rest)
    ∙ zero-add (rows_begun d columns s rest)
    ∙ quiet_rows d columns s bytes n (at + 1) (omega (arith, room)) (λ k low lt. quiet k (omega (arith, low)) (omega (arith, lt)))
    ∙ ap (λ k. rows_begun d columns s (drop k bytes)) far

pub goes_on_quiet : (rule : CutRule) (bytes : List ℕ) (old : Counted) (end : ℕ) → old.at ≤ end → end ≤ length bytes → ((k : ℕ) → old.at ≤ k → k < end → IsQuiet rule.dialect old.state (get_or bytes k 0)) →
    GoesOn rule bytes old (record { at = end; state = old.state; rows = old.rows })
goes_on_quiet rule bytes old end low high quiet =
    let d = rule.dialect in
    let far : old.at + (end - old.at) ≡ end = omega (arith, low) in
    let all : rows_begun d rule.columns old.state (drop old.at bytes) ≡ rows_begun d rule.columns old.state (drop end bytes) =
    quiet_rows d rule.columns old.state bytes (end - old.at) old.at (omega (arith, far, high)) (λ k le lt. quiet k le (omega (arith, lt, far)))
    ∙ ap (λ k. rows_begun d rule.columns old.state (drop k bytes)) far in
    record {
      low = low;
      high = high;
      few = omega (arith, low);
      after = state_along d old.state _ bytes old.at end low high quiet refl;
      rows = ap (λ n. old.rows + n) (sym all);
    }
