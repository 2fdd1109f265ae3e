-- A row that fits its types has as many cells.
use Rattle.std.proofs.Common.{◌≡◌, suc, refl, ap, List, [], ◌∷◌, length, true}
use Rattle.std.proofs.lemmas.Bool.{and_parts, false≢true}
use Rattle.value_types.specs.OfType.{fits, fit_all}
use Rattle.value_types.specs.declared.types.ColumnType.{ColumnType}
use Rattle.value_types.specs.Datum.{Datum}

pub fit_lengths : (tys : List ColumnType) (cells : List Datum) → fit_all tys cells ≡ true → length cells ≡ length tys
fit_lengths [] [] h = refl
fit_lengths [] (cell ∷ cells) h = absurd (false≢true h)
fit_lengths (ty ∷ tys) [] h = absurd (false≢true h)
fit_lengths (ty ∷ tys) (cell ∷ cells) h = ap suc (fit_lengths tys cells (and_parts (fits ty cell) (fit_all tys cells) h).1)
