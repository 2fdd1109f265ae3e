use Rattle.std.proofs.Common.{◌≡◌}
use Rattle.value_types.specs.Extent.{extent_of}
use Rattle.value_types.specs.Marked.{bigint_cells}
use Rattle.value_types.specs.Packed.{numbers_in}
use Rattle.value_types.proofs.measuring.extent_of_marked.Given as goal

-- the numbers so far are taken in
abbrev pub invariant-loop-row : goal.invariant-loop-row
invariant-loop-row l = l.extent ≡ extent_of l.row (bigint_cells l.nulls (numbers_in l.numbers))
