-- Cells that are cut off.
use Rattle.std.proofs.Common.{◌≡◌, ◌≤◌, ◌<◌, ◌∙◌, sym, ap, refl, subst, ℕ, List, length, get_or, map, take, Option, inl, inr, arith}
use Rattle.std.proofs.lemmas.Bool.{cases_lt}
use Rattle.std.proofs.lemmas.List.{take-map, take_all}
use Rattle.value_types.specs.Datum.{Datum}
use Rattle.column_store.specs.declared.column.Column.{Column}
use Rattle.column_store.specs.ColumnCells.{cells_of}
use Rattle.column_store.specs.ColumnChanges.{EachColumn, IsCut}
use Rattle.column_store.specs.Nullable.{datum_by}
use Rattle.column_store.proofs.ColumnLoops.{SoFar}

-- a cut before the values are made cells is one behind it
pub cut_cells : {A : Type 0} (make : A → Datum) (count : ℕ) (values cut : List (Option A)) → cut ≡ take count values → map (datum_by make) cut ≡ take count (map (datum_by make) values)
cut_cells make count values cut is = ap (map (datum_by make)) is ∙ sym (take-map (datum_by make) count values)

-- where the first columns are cut and the others have no more cells, all are
pub first_cut : (rows longer place : ℕ) (old now : List Column) → SoFar (λ _. IsCut rows) place old now → longer ≤ place →
    ((number : ℕ) (other : Column) → longer ≤ number → number < length old → length (cells_of (get_or old number other)) ≤ rows) → EachColumn (λ _. IsCut rows) old now
first_cut rows longer place old now so end short = record {
  count = so.count;
  each = λ number other within. elim (cases_lt number place) [
    | inl below ↦ so.before number other below within
    | inr low ↦ subst (IsCut rows (get_or old number other)) (sym (so.behind number other low))
        (record { ty = refl; cells = sym (take_all rows (cells_of (get_or old number other)) (short number other (omega (arith, low, end)) within)); room = refl })
  ];
}
