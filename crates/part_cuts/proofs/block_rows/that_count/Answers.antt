use Rattle.std.proofs.Common.{◌≡◌, ℕ, Bool, true, false, cond, not, ◌&&◌, ◌||◌, refl, sym, ◌∙◌}
use Rattle.std.proofs.lemmas.Bool.{ne_eqb}
use Rattle.quote_automaton.specs.Counted.{is_set}
use Rattle.quote_automaton.proofs.CountedBits.{bit_is, both_is, neither_is}
use Rattle.part_cuts.proofs.block_rows.that_count.Goals as goal

alike : (begins end : Bool) → cond {A = ℕ} (begins && not end) 1 0 ≡ cond (begins && (not end || false)) 1 0
alike true true = refl
alike true false = refl
alike false end = refl

pub returns-else-columns-eq1 : goal.returns-else-columns-eq1
returns-else-columns-eq1 c i lt =
    let begins = c.args.begins in
    let ends = c.args.line_ends in
    both_is begins _ i _ _ (bit_is begins i) (neither_is ends i _ c.ranges.line_ends.fits lt (bit_is ends i)) ∙ alike (is_set begins i) (is_set ends i)
    ∙ (λ j. cond {A = ℕ} (is_set begins i && (not (is_set ends i) || sym (ne_eqb c.args.columns 1 c.if-columns-eq1.false) j)) 1 0)
