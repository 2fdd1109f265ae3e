use Rattle.std.proofs.Common.{◌≡◌, [], map, take}
use Rattle.std.specs.Prelude.{All}
use Rattle.column_store.specs.ColumnCells.{cells_of, type_of}
use Rattle.column_store.proofs.columns.empty_columns.Given as goal

abbrev pub invariant-loop-ty : goal.invariant-loop-ty
invariant-loop-ty l = (map type_of l.columns.items ≡ take l.ty-index l.types) × All (λ column. cells_of column ≡ []) l.columns.items
