-- The cell that a row's value becomes in the next column.
use Rattle.std.proofs.Common.{◌≡◌, ℕ, zero, suc, ◌<◌, Bool, true, false, List, [], ◌∷◌, length, Option, Some, None, is_some, slice_get, refl, ap, ◌∙◌, arith}
use Rattle.std.specs.Prelude.{option_and_then}
use Rattle.row_fields.specs.Fields.{Field}
use Rattle.value_types.specs.declared.types.ColumnType.{ColumnType}
use Rattle.value_types.specs.Datum.{Datum}
use Rattle.column_store.specs.ChunkView.{ChunkView}
use Rattle.reject_book.specs.declared.reject.Schema.{Schema}
use Rattle.reject_book.specs.Casting.{cell_at}
use Rattle.range_scan.specs.Pushed.{next_cell}

pub type_there : (tys : List ColumnType) (k : ℕ) → k < length tys → (ty : ColumnType) × (slice_get tys k ≡ Some ty)
type_there [] k lt = absurd (let n : ⊥ = omega (arith, lt) in n)
type_there (ty ∷ tys) zero lt = (ty, refl)
type_there (ty ∷ tys) (suc k) lt = type_there tys k (omega (arith, lt))

-- behind so many cells it is that of the column with this number, of this type
pub next_is : (schema : Schema) (fs : List Field) (chunk : ChunkView) (k : ℕ) (ty : ColumnType) → length chunk.unfinished ≡ k → slice_get chunk.types k ≡ Some ty
    → next_cell schema fs chunk ≡ cell_at schema ty (slice_get fs k)
next_is schema fs chunk k ty at h =
    (λ i. option_and_then (λ ty. cell_at schema ty (slice_get fs (at i))) (slice_get chunk.types (at i)))
    ∙ ap (option_and_then (λ ty. cell_at schema ty (slice_get fs k))) h

-- a cell that is there, or isn't
pub cell_there : (o : Option Datum) (could : Bool) → could ≡ is_some o → could ≡ true → (cell : Datum) × (o ≡ Some cell)
cell_there None could is there = absurd (let n : ⊥ = cc in n)
cell_there (Some cell) could is there = (cell, refl)

pub no_cell : (o : Option Datum) (could : Bool) → could ≡ is_some o → could ≡ false → None ≡ o
no_cell None could is there = refl
no_cell (Some cell) could is there = absurd (let n : ⊥ = cc in n)
