use Rattle.std.proofs.Common.{◌+◌, ◌≤◌, length, sym, ◌∙◌, ap, arith}
use Rattle.std.proofs.lemmas.Simd.{length-chunk}
use Rattle.quote_automaton.specs.Automaton.{state_after}
use Rattle.quote_automaton.specs.Counted.{state_of}
use Rattle.part_cuts.specs.declared.row_count.Counted.{Counted}
use Rattle.part_cuts.specs.Passed.{rows_begun}
use Rattle.part_cuts.proofs.BlockRows.{rows_begun-le}
use Rattle.part_cuts.proofs.CountedLaws.{goes_further, goes_on_block}
use Rattle.part_cuts.proofs.row_count.pass_blocks.Goals as goal

pub overflow_add-rows : goal.overflow_add-rows
overflow_add-rows c =
    let rule = c.args.rule.now in
    let room : c.loop-at.at + 64 ≤ length c.args.bytes.now = omega (arith, c.loop-at-test.true, c.loop-at.invariant.high) in
    let long = ap length c.bytes_at.ensures ∙ length-chunk c.loop-at.at 64 c.args.bytes.now room in
    let few = rows_begun-le rule.dialect rule.columns (state_of rule.dialect c.loop-at.place) c.bytes_at.result in
    omega (arith, c.in-Some-rows_in_block.ensures.rows, room, long, few, c.requires.few, c.loop-at.invariant.few)

pub loop-at-preserved : goal.loop-at-preserved
loop-at-preserved c =
    let rule = c.args.rule.now in
    let d = rule.dialect in
    let bytes = c.args.bytes.now in
    let s = state_of d c.loop-at.place in
    let old : Counted = record { at = c.loop-at.at; state = s; rows = c.loop-at.rows } in
    let block = c.in-Some-rows_in_block.block in
    goes_further rule bytes c.args.from old _ c.loop-at.invariant
    (goes_on_block rule bytes old (state_of d block.next) block.rows (omega (arith, c.loop-at-test.true, c.loop-at.invariant.high))
    (ap (state_after d s) (sym c.bytes_at.ensures) ∙ c.in-Some-rows_in_block.ensures.next) (c.in-Some-rows_in_block.ensures.rows ∙ ap (rows_begun d rule.columns s) c.bytes_at.ensures))
