use Rattle.std.proofs.Common.{◌≡◌, ◌++◌, drop, length}
use Rattle.dialect_rank.specs.Scored.{scored_from}
use Rattle.dialect_rank.proofs.scored.scored_of.Given as goal

-- with the candidates that are left they are all
abbrev pub invariant-loop-place : goal.invariant-loop-place
invariant-loop-place l = record {
  all : l.scored.items ++ scored_from l.sample l.whole l.sample_size l.place (drop l.place l.candidates)
      ≡ scored_from l.sample l.whole l.sample_size 0 l.candidates;
  many : length l.scored.items ≡ l.place;
  bytes : l.searched.bytes.now ≡ l.sample;
}
