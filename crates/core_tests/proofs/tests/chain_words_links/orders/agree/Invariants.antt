use Rattle.chain_words.specs.Worked.{IsReady}
use Rattle.core_tests.proofs.tests.chain_words_links.orders.agree.Given as goal

abbrev pub invariant-loop-turn : goal.invariant-loop-turn
invariant-loop-turn l = record {
  first : IsReady l.chain l.links.first.link l.links.first.kept l.links.first.duty;
  second : IsReady l.chain l.links.second.link l.links.second.kept l.links.second.duty;
  third : IsReady l.chain l.links.third.link l.links.third.kept l.links.third.duty;
  fourth : IsReady l.chain l.links.fourth.link l.links.fourth.kept l.links.fourth.duty;
}
