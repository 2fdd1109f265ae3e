use Rattle.chain_words.proofs.Ready.{reposted_ready}
use Rattle.core_tests.proofs.tests.chain_words_links.walker.Walker.repost.Goals as goal

pub returns-clause-ready : goal.returns-clause-ready
returns-clause-ready c = reposted_ready _ _ _ _ _ _ c.requires.ready c.repost.ensures.same c.repost.ensures.value
