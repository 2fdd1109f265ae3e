use Rattle.std.proofs.Common.{◌≡◌, ◌≤◌, length, map, take}
use Rattle.std.specs.Prelude.{vec_capacity}
use Rattle.value_types.specs.Packed.{number_over}
use Rattle.value_types.proofs.offsets.Offsets.of.Given as goal

-- the numbers so far are those over the least one, and all have room
abbrev pub invariant-loop-place : goal.invariant-loop-place
invariant-loop-place g l =
    record {
      numbers : map (λ over. number_over l.least (g.T.Narrow.worth over)) l.over.items ≡ take l.place l.numbers;
      count : length l.over.items ≡ l.place;
      room : length l.numbers ≤ vec_capacity l.over;
    }
