use Rattle.chain_words.proofs.AnswerLaws.{look_keeps}
use Rattle.chain_words.proofs.Ready.{still_ready}
use Rattle.core_tests.proofs.tests.chain_words_links.walker.Walker.look.Goals as goal

pub returns : goal.returns
returns c = still_ready _ _ _ _ _ c.requires.ready c.look.ensures.same (look_keeps _ _ _ c.look.ensures.value).0
