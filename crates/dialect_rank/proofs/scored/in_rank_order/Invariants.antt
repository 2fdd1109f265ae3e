use Rattle.std.proofs.Common.{◌≡◌}
use Rattle.std.specs.Prelude.{flat_map, filter, ◌==◌}
use Rattle.std.specs.List.{range_with_len}
use Rattle.dialect_rank.specs.declared.scored.Scored.{Scored}
use Rattle.dialect_rank.specs.Scored.{standing}
use Rattle.dialect_rank.proofs.scored.in_rank_order.Given as goal

-- those than which fewer are better
abbrev pub invariant-loop-better : goal.invariant-loop-better
invariant-loop-better l = l.ordered.items ≡ flat_map (λ better. filter (λ (c : Scored). standing l.scored c == better) l.scored) (range_with_len 0 l.better)
