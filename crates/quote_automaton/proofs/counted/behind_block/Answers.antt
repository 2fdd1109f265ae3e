use Rattle.std.proofs.Common.{sym, ◌∙◌, ap}
use Rattle.quote_automaton.specs.Automaton.{state_after}
use Rattle.quote_automaton.specs.Counted.{state_of}
use Rattle.quote_automaton.proofs.CountedLaws.{state_passed}
use Rattle.quote_automaton.proofs.counted.behind_block.Goals as goal

pub returns : goal.returns
returns c =
    let d = c.args.dialect.now in
    let s = state_of d c.args.place in
    state_passed d s (state_of d c.in_ok-told.told.next) c.args.bytes.now c.args.at 64 (ap (state_after d s) (sym c.bytes_at.ensures) ∙ c.in_ok-told.ensures.behind)
