-- Cells that are pushed one after another as a row.
use Rattle.std.proofs.Common.{◌≡◌, ℕ, zero, suc, ◌+◌, ◌<◌, ◌≤◌, sym, ap, ◌∙◌, subst, arith, List, [], ◌∷◌, ◌++◌, length, take, true, Some}
use Rattle.std.specs.Prelude.{slice_get}
use Rattle.std.proofs.lemmas.Bool.{and_parts, false≢true}
use Rattle.std.proofs.lemmas.List.{length-take, take_all, take_more}
use Rattle.std.proofs.lemmas.Option.{get_or_from_slice_get, none-some, same_Some, slice_get_within}
use Rattle.value_types.specs.OfType.{fits, fit_all}
use Rattle.value_types.specs.declared.types.ColumnType.{ColumnType}
use Rattle.value_types.specs.Datum.{Datum, null}
use Rattle.value_types.proofs.RowFits.{fit_lengths}
use Rattle.column_store.specs.RowsOfColumns.{FitsColumn}

-- a cell fits only where there is a column
pub column_there : (tys : List ColumnType) (number : ℕ) (cell : Datum) → FitsColumn tys number cell → number < length tys
column_there [] number cell h = absurd h
column_there (ty ∷ tys) zero cell h = omega arith
column_there (ty ∷ tys) (suc number) cell h = let rest : number < length tys = column_there tys number cell h in omega arith

fits_each : (tys : List ColumnType) (cells : List Datum) (number : ℕ) (cell : Datum) → fit_all tys cells ≡ true → slice_get cells number ≡ Some cell → FitsColumn tys number cell
fits_each [] [] number cell h is = absurd (none-some cell is)
fits_each [] (c ∷ cells) number cell h is = absurd (false≢true h)
fits_each (ty ∷ tys) [] number cell h is = absurd (false≢true h)
fits_each (ty ∷ tys) (c ∷ cells) zero cell h is = ap (fits ty) (sym (same_Some c cell is)) ∙ (and_parts (fits ty c) (fit_all tys cells) h).0
fits_each (ty ∷ tys) (c ∷ cells) (suc number) cell h is = fits_each tys cells number cell (and_parts (fits ty c) (fit_all tys cells) h).1 is

pub fits_next : (tys : List ColumnType) (cells : List Datum) (number : ℕ) (cell : Datum) (types : List ColumnType) (unfinished : List Datum) → types ≡ tys → unfinished ≡ take number cells → number ≤ length cells →
    fit_all tys cells ≡ true → slice_get cells number ≡ Some cell → FitsColumn types (length unfinished) cell
fits_next tys cells number cell types unfinished t u within h is =
    let count : number ≡ length unfinished = sym (ap length u ∙ length-take number cells ∙ omega arith) in
    subst (λ n. FitsColumn types n cell) count (subst (λ ts. FitsColumn ts number cell) (sym t) (fits_each tys cells number cell h is))

pub take_next : (cells : List Datum) (number : ℕ) (cell : Datum) → slice_get cells number ≡ Some cell → take number cells ++ cell ∷ [] ≡ take (number + 1) cells
take_next cells number cell is =
    ap (λ d. take number cells ++ d ∷ []) (sym (get_or_from_slice_get cells number cell null is)) ∙ sym (take_more cells number null (slice_get_within cells number cell is))

-- behind the last cell of a row that fits each column has one
pub row_ended : (tys : List ColumnType) (cells : List Datum) (number : ℕ) (types : List ColumnType) (unfinished : List Datum) → types ≡ tys → unfinished ≡ take number cells → length cells ≤ number →
    fit_all tys cells ≡ true → length unfinished ≡ length types
row_ended tys cells number types unfinished t u past h = ap length (u ∙ take_all number cells past) ∙ fit_lengths tys cells h ∙ ap length (sym t)
