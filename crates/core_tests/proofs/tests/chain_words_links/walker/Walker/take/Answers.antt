use Rattle.std.proofs.Common.{subst}
use Rattle.std.specs.Prelude.{Option}
use Rattle.quote_automaton.specs.declared.state.State.{State}
use Rattle.chain_words.specs.declared.mark.Mark.{Mark}
use Rattle.chain_words.specs.Worked.{IsReady}
use Rattle.chain_words.proofs.Ready.{won_ready}
use Rattle.core_tests.proofs.tests.chain_words_links.walker.Walker.take.Goals as goal

pub take_duty-answer-requires-clause-seen : goal.take_duty-answer-requires-clause-seen
take_duty-answer-requires-clause-seen c = (c.requires.ready.difference _ c.requires.kept).seen

pub take_duty-answer-requires-clause-guessed : goal.take_duty-answer-requires-clause-guessed
take_duty-answer-requires-clause-guessed c = (c.requires.ready.difference _ c.requires.kept).guessed

pub take_duty-answer-requires-clause-state : goal.take_duty-answer-requires-clause-state
take_duty-answer-requires-clause-state c = (c.requires.ready.difference _ c.requires.kept).state_is

pub take_duty-answer-requires-clause-wrong : goal.take_duty-answer-requires-clause-wrong
take_duty-answer-requires-clause-wrong c = (c.requires.ready.difference _ c.requires.kept).wrong

pub returns-in-Won : goal.returns-in-Won
returns-in-Won c = won_ready _ _ _ _ c.args.state _
    (subst (λ (kept : Option (Mark × State)). IsReady c.args.chain.now c.args.self.now.link kept c.args.self.now.duty) c.requires.kept c.requires.ready)
    c.take_duty-answer.ensures.same c.in-Won.ensures.value
