use Rattle.std.proofs.Common.{◌≡◌, ℕ, ◌+◌, ◌-◌, slice_index, vec_len}
use Rattle.dialect_rank.proofs.most_frequent.reach.Given as goal

abbrev pub invariant-loop-counts : goal.invariant-loop-counts
invariant-loop-counts l = (n : ℕ) → slice_index l.counts.items n ≡ slice_index l.initial.counts.items n

abbrev pub decreases-loop-counts : goal.decreases-loop-counts
decreases-loop-counts l = (l.place + 1) - vec_len l.counts
