use Rattle.std.proofs.Common.{◌≡◌, ◌+◌, ◌-◌, ◌≤◌, length, drop, not}
use Rattle.std.specs.List.{prefix_len}
use Rattle.text_pieces.proofs.search.first_where.Given as goal

-- the run from `from` on reaches as far as the one from `at` on
abbrev pub invariant-loop-at : goal.invariant-loop-at
invariant-loop-at g l = record {
  high : l.at ≤ length l.bytes;
  reach : l.fn.from + prefix_len (λ b. not (g.P.Probe.passes b)) (drop l.fn.from l.bytes) ≡ l.at + prefix_len (λ b. not (g.P.Probe.passes b)) (drop l.at l.bytes);
}

abbrev pub decreases-loop-at : goal.decreases-loop-at
decreases-loop-at g l = length l.bytes - l.at
