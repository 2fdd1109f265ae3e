use Rattle.std.proofs.Common.{◌≡◌, ◌∷◌, []}
use Rattle.value_types.specs.declared.types.ColumnType.TheVariants.{Bigint}
use Rattle.part_tests.proofs.tests.column_store_chunks.nulls.Given as goal

-- a column of numbers, however many rows it has
abbrev pub invariant-loop : goal.invariant-loop
invariant-loop l = l.table.types ≡ Bigint ∷ []
