use Rattle.std.proofs.Common.{◌≡◌, ◌≤◌, drop, length}
use lib.Lanes.{mask_l}
use Rattle.csv_sniffer.proofs.zero_columns.bits_of.Given as goal

-- the flags from the place on
abbrev pub invariant-loop-place : goal.invariant-loop-place
invariant-loop-place l = record {
  within : l.place ≤ length l.flags;
  bits : l.bits ≡ mask_l (drop l.place l.flags);
}
