use Rattle.std.proofs.Common.{◌≡◌, ◌++◌, take}
use Rattle.std.specs.Prelude.{filter, ◌==◌}
use Rattle.dialect_rank.specs.declared.scored.Scored.{Scored}
use Rattle.dialect_rank.specs.Scored.{standing}
use Rattle.dialect_rank.proofs.scored.push_standing.Given as goal

abbrev pub invariant-loop-candidate : goal.invariant-loop-candidate
invariant-loop-candidate l =
    l.into.items ≡ l.fn.into.items ++ filter (λ (c : Scored). standing l.scored c == l.better) (take l.candidate-index l.scored)
