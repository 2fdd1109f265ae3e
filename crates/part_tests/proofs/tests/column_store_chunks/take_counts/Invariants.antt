use Rattle.std.proofs.Common.{◌≡◌, ◌∷◌, []}
use Rattle.value_types.specs.declared.types.ColumnType.TheVariants.{Bigint}
use Rattle.part_tests.proofs.tests.column_store_chunks.take_counts.Given as goal

-- a column of numbers, whatever was taken in
abbrev pub invariant-loop-count : goal.invariant-loop-count
invariant-loop-count l = l.table.types ≡ Bigint ∷ []
