use Rattle.std.proofs.Common.{◌≡◌, ℕ, ◌<◌, false, get_or}
use Rattle.dialect_rank.specs.Alike.{reads_alike}
use Rattle.dialect_rank.proofs.searched_sample.SearchedSample.first_alike.Given as goal

abbrev pub invariant-loop-index : goal.invariant-loop-index
invariant-loop-index l = record {
  none : (k : ℕ) → k < l.index → reads_alike l.fn.self.bytes.now (get_or l.candidates k l.dialect) l.dialect ≡ false;
  bytes : l.self.bytes.now ≡ l.fn.self.bytes.now;
  whole : l.self.whole ≡ l.fn.self.whole;
  size : l.self.sample_size ≡ l.fn.self.sample_size;
}
