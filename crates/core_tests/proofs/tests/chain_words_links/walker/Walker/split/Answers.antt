use Rattle.std.proofs.Common.{sym, refl, subst, arith}
use Rattle.chain_words.specs.Laws.{Keeps}
use Rattle.chain_words.proofs.Ready.{still_ready}
use Rattle.core_tests.proofs.tests.chain_words_links.walker.Walker.split.Goals as goal

pub returns-clause-ready : goal.returns-clause-ready
returns-clause-ready c = still_ready _ _ _ _ _ c.requires.ready c.split.ensures.same.0
    (subst (Keeps c.args.self.now.link.view) (sym c.split.ensures.same.1) (record { plan = refl; next = omega arith; has_duty = refl; duty = refl }))
