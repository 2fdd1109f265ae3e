-- The reading over bytes among which no part begins.
use Rattle.std.proofs.Common.{◌≡◌, ℕ, suc, ◌+◌, ◌≤◌, ◌&&◌, not, cond, Bool, true, false, List, [], ◌∷◌, ◌++◌, length, refl, ◌∙◌, ap, arith}
use Rattle.std.specs.Prelude.{nat_lt, Some}
use Rattle.std.proofs.lemmas.Bool.{lt-ltb}
use Rattle.byte_classes.specs.Class.{class_of}
use Rattle.byte_classes.specs.Dialect.{Marks}
use Rattle.byte_classes.specs.LineEnds.{ends_physical_line, line_ends}
use Rattle.quote_automaton.specs.declared.state.State.{State}
use Rattle.quote_automaton.specs.Automaton.{step}
use Rattle.part_cuts.specs.Cut.{counts_row, is_cut}
use Rattle.part_cuts.specs.NoCut.{NoCut}
use Rattle.part_cuts.specs.Passed.{passed, rows_begun}
use Rattle.part_cuts.specs.Reading.{Reading, begins_part, begun, behind, reading}

-- no bytes
pub passed-nil : (r : Reading) → r ≡ passed r []
passed-nil r =
    let all : r.tally.bytes ≡ r.tally.bytes + 0 = omega arith in
    let ends : r.tally.lines ≡ r.tally.lines + 0 = omega arith in
    let starts : r.tally.rows ≡ r.tally.rows + 0 = omega arith in
    λ i. record r { tally = record { bytes = all i; lines = ends i; rows = starts i } }

-- a byte, and those behind it
pub passed-cons : (r : Reading) (b : ℕ) (bytes : List ℕ) → passed (behind r b) bytes ≡ passed r (b ∷ bytes)
passed-cons r b bytes =
    let one : ℕ = cond (ends_physical_line r.before b) 1 0 in
    let row : ℕ = cond (counts_row r.rule.columns r.state (class_of r.rule.dialect b)) 1 0 in
    let d : Marks = r.rule.dialect in
    let s : State = step d r.state b in
    let all : (r.tally.bytes + 1) + length bytes ≡ r.tally.bytes + suc (length bytes) = omega arith in
    let ends : (r.tally.lines + one) + line_ends (Some b) bytes ≡ r.tally.lines + (one + line_ends (Some b) bytes) = omega arith in
    let starts : (r.tally.rows + row) + rows_begun d r.rule.columns s bytes ≡ r.tally.rows + (row + rows_begun d r.rule.columns s bytes) = omega arith in
    λ i. record (passed r (b ∷ bytes)) { tally = record { bytes = all i; lines = ends i; rows = starts i } }

-- past a byte at which no part begins
passed_step : (r : Reading) (b : ℕ) (bytes seen : List ℕ) → begins_part r (b ∷ (bytes ++ seen)) ≡ false →
    reading (behind r b) bytes seen ≡ passed (behind r b) bytes → reading r (b ∷ bytes) seen ≡ passed r (b ∷ bytes)
passed_step r b bytes seen none rest =
    ap (λ t. reading (behind (cond t (begun r) r) b) bytes seen) none ∙ (rest ∙ passed-cons r b bytes)

-- no part begins where there is no cut
pub passed_no_cut : (r : Reading) (bytes seen : List ℕ) → NoCut r.rule.dialect r.state bytes seen → reading r bytes seen ≡ passed r bytes
passed_no_cut r [] seen none = passed-nil r
passed_no_cut r (b ∷ bytes) seen none = passed_step r b bytes seen (ap (λ t. t && not (nat_lt r.tally.bytes r.due)) none.0) (passed_no_cut (behind r b) bytes seen none.1)

-- no part begins before the multiple
pub passed_early : (r : Reading) (bytes seen : List ℕ) → r.tally.bytes + length bytes ≤ r.due → reading r bytes seen ≡ passed r bytes
passed_early r [] seen early = passed-nil r
passed_early r (b ∷ bytes) seen early =
    passed_step r b bytes seen (below (nat_lt r.tally.bytes r.due) (is_cut r.rule.dialect r.state (b ∷ (bytes ++ seen))) (lt-ltb r.tally.bytes r.due (let h : r.tally.bytes + suc (length bytes) ≤ r.due = early in omega (arith, h))))
    (passed_early (behind r b) bytes seen (let h : r.tally.bytes + suc (length bytes) ≤ r.due = early in omega (arith, h))) where
      below : (t c : Bool) → t ≡ true → (c && not t) ≡ false
      below true true is = refl
      below true false is = refl
      below false c is = absurd (let no : ⊥ = cc in no)

-- the first byte of a part
pub begins_passed : (r : Reading) (b : ℕ) (seen : List ℕ) → begins_part r (b ∷ seen) ≡ true → reading r (b ∷ []) seen ≡ passed (begun r) (b ∷ [])
begins_passed r b seen begins = ap (λ t. reading (behind (cond t (begun r) r) b) [] seen) begins ∙ (passed-nil (behind (begun r) b) ∙ passed-cons (begun r) b [])
