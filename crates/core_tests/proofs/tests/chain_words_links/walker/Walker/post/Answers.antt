use Rattle.chain_words.proofs.AnswerLaws.{post_keeps}
use Rattle.chain_words.proofs.Ready.{still_ready}
use Rattle.core_tests.proofs.tests.chain_words_links.walker.Walker.post.Goals as goal

pub returns : goal.returns
returns c = still_ready _ _ _ _ _ c.requires.ready c.post.ensures.same (post_keeps _ _ _ _ c.post.ensures.value).0
