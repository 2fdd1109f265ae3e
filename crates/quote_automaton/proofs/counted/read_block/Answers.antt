use lib.Bits.{bit_or}
use Rattle.std.specs.Prelude.{◌==◌, ◌||◌}
use Rattle.byte_classes.specs.Class.{class_of, is_line_end}
use Rattle.byte_classes.proofs.BitLaws.{either_bit, same_bits}
use Rattle.byte_classes.proofs.SpecialLaws.{line_end_bytes}
use Rattle.std.proofs.Common.{◌≡◌, ℕ, ◌<◌, subst}
use Rattle.std.specs.Int.{bit_at}
use Rattle.quote_automaton.specs.Counted.{bit_behind}
use Rattle.quote_automaton.proofs.CountedLaws.{block_begins}
use Rattle.quote_automaton.proofs.counted.read_block.Goals as goal

pub returns-clause-begins : goal.returns-clause-begins
returns-clause-begins c =
    let lf = c.places_of-lf.result in
    let cr = c.places_of-cr.result in
    block_begins c.args.dialect.now c.args.place c.args.block.now c.in_ok-told.told.inside lf cr (bit_or lf cr) c.behind-behind_ends.result c.behind-behind_cr.result c.row_starts.result c.in_ok-told.told.next
    c.in_ok-told.ensures c.places_of-lf.ensures c.places_of-cr.ensures (either_bit (λ b. b == 10) (λ b. b == 13) c.args.block.now lf cr c.places_of-lf.ensures c.places_of-cr.ensures)
    (subst (λ t. (i : ℕ) → i < 64 → bit_at c.behind-behind_ends.result i ≡ bit_behind t (bit_or lf cr) i) c.is_line_end.ensures c.behind-behind_ends.ensures)
    c.behind-behind_cr.ensures c.row_starts.ensures

pub returns-clause-line_ends : goal.returns-clause-line_ends
returns-clause-line_ends c =
    same_bits (λ b. b == 10 || b == 13) (λ b. is_line_end (class_of c.args.dialect.now b)) c.args.block.now _ (line_end_bytes c.args.dialect.now)
    (either_bit (λ b. b == 10) (λ b. b == 13) c.args.block.now c.places_of-lf.result c.places_of-cr.result c.places_of-lf.ensures c.places_of-cr.ensures)
