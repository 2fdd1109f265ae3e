use Rattle.std.specs.List.{IsFirstBest}
use Rattle.dialect_rank.specs.Rank.{is_above}
use Rattle.dialect_rank.proofs.best_place.best.Given as goal

abbrev pub invariant-loop-place : goal.invariant-loop-place
invariant-loop-place l = IsFirstBest is_above l.scores l.place l.best
