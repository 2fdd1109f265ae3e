use Rattle.chain_words.proofs.AnswerLaws.{advance_keeps}
use Rattle.chain_words.proofs.Ready.{still_ready}
use Rattle.core_tests.proofs.tests.chain_words_links.walker.Walker.advance.Goals as goal

pub returns-in_default : goal.returns-in_default
returns-in_default c = still_ready _ _ _ _ _ c.requires.ready c.advance-answer.ensures.same (advance_keeps _ _ _ c.advance-answer.ensures.value).keeps
