use Rattle.std.proofs.Common.{◌≡◌, [], ◌∷◌}
use Rattle.std.specs.Prelude.{All}
use Rattle.value_types.specs.declared.types.ColumnType.TheVariants.{Varchar}
use Rattle.value_types.specs.Spelled.{IsSpelledCell}
use Rattle.part_tests.proofs.tests.db_writer_written.three_blocks.Given as goal

abbrev pub invariant-loop-index : goal.invariant-loop-index
invariant-loop-index l = record {
  types : l.table.types ≡ Varchar ∷ [];
  values : All (λ cells. All IsSpelledCell cells) l.table.rows;
}
