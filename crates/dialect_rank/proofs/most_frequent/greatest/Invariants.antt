use Rattle.std.proofs.Common.{◌≤◌}
use Rattle.dialect_rank.specs.Frequency.{IsGreatestBelow}
use Rattle.dialect_rank.proofs.most_frequent.greatest.Given as goal

abbrev pub invariant-loop-place : goal.invariant-loop-place
invariant-loop-place l = record { within : l.greatest ≤ l.place; best : IsGreatestBelow l.place l.counts l.greatest }
