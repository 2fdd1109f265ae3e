use Rattle.std.proofs.Common.{◌≡◌, ◌≤◌, drop}
use Rattle.value_types.specs.Reading.{with_digits}
use Rattle.value_types.proofs.numbers.number_within.Given as goal

abbrev pub invariant-loop-place : goal.invariant-loop-place
invariant-loop-place l = (with_digits l.most l.value (drop l.place l.text) ≡ with_digits l.most 0 l.text) × (l.value ≤ l.most)
