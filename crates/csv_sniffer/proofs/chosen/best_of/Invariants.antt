use Rattle.std.proofs.Common.{◌≡◌}
use Rattle.std.specs.Prelude.{None}
use Rattle.dialect_rank.specs.Candidates.{with_delim, no_quote}
use Rattle.csv_sniffer.proofs.BestRanked.{IsBestBelow}
use Rattle.csv_sniffer.proofs.chosen.best_of.Given as goal

abbrev pub invariant-loop-place : goal.invariant-loop-place
invariant-loop-place l = record {
  best : IsBestBelow l.sample l.whole l.sample_size l.candidates (with_delim None 44 no_quote) l.place l.best;
  bytes : l.searched.bytes.now ≡ l.sample;
  whole : l.searched.whole ≡ l.whole;
  size : l.searched.sample_size ≡ l.sample_size;
}
