use Rattle.std.proofs.Common.{◌∙◌}
use Rattle.quote_automaton.specs.Counted.{state_of}
use Rattle.part_cuts.proofs.BlockRows.{ones_of_block}
use Rattle.part_cuts.proofs.block_rows.rows_in_block.Goals as goal

pub returns-clause-rows : goal.returns-clause-rows
returns-clause-rows c =
    let rule = c.args.rule.now in
    let told = c.in_ok-told.told in
    c.ones.ensures
    ∙ ones_of_block rule.dialect rule.columns (state_of rule.dialect c.args.place) c.args.block.now told.begins told.line_ends c.that_count-counting.result c.told-block c.that_count-counting.type_inv
    c.in_ok-told.ensures.begins c.in_ok-told.ensures.line_ends c.that_count-counting.ensures
