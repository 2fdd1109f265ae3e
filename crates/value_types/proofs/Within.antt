-- Numbers lie within their extent.
use Rattle.std.proofs.Common.{◌≡◌, ℕ, ℤ, ◌≤◌, Bool, List, [], ◌∷◌, Option, Some, None, length, map, sym, ◌∙◌, arith}
use Rattle.std.specs.Prelude.{All, IfSome, ◌≤ℤ◌}
use Rattle.std.specs.Int.{int_min, int_max}
use Rattle.std.specs.List.{fold}
use Rattle.std.proofs.lemmas.Int.{ints, clamps}
use Rattle.std.proofs.lemmas.List.{take_all}
use Rattle.std.proofs.lemmas.List.Elements.{All-nil, All-cons}
use Rattle.value_types.specs.declared.extent.Extent.{Extent}
use Rattle.value_types.specs.declared.types.Value.TheVariants as kinds
use Rattle.value_types.specs.Datum.{Datum, typed}
use Rattle.value_types.specs.Extent.{extent_of, extent_with}
use Rattle.value_types.specs.Marked.{bigint_cells}
use Rattle.value_types.specs.Packed.{IsWithin}
use Rattle.value_types.proofs.MarkedSteps.{fold_plain}

abbrev number : ℤ → Datum
number n = typed (kinds.Int n)

abbrev with : Extent → ℤ → Extent
with extent n = record { least = int_min extent.least n; greatest = int_max extent.greatest n }

-- what takes in more is as wide at least
wider : (numbers : List ℤ) (extent wide : Extent) → fold extent_with (Some extent) (map number numbers) ≡ Some wide → (wide.least ≤ℤ extent.least) × (extent.greatest ≤ℤ wide.greatest)
wider [] extent wide is =
    let same : extent ≡ wide = cc in
    let least : extent.least ≡ wide.least = λ i. (same i).least in
    let greatest : extent.greatest ≡ wide.greatest = λ i. (same i).greatest in
    (omega (arith, ints, least), omega (arith, ints, greatest))
wider (n ∷ numbers) extent wide is =
    let rest = wider numbers (with extent n) wide is in
    (omega (arith, ints, clamps, rest.0), omega (arith, ints, clamps, rest.1))

within : (numbers : List ℤ) (extent : Option Extent) (wide : Extent) → fold extent_with extent (map number numbers) ≡ Some wide → All (IsWithin wide) numbers
within [] extent wide is = All-nil (IsWithin wide)
within (n ∷ numbers) None wide is =
    let here = wider numbers (record { least = n; greatest = n }) wide is in
    All-cons (IsWithin wide) n numbers here (within numbers (Some (record { least = n; greatest = n })) wide is)
within (n ∷ numbers) (Some extent) wide is =
    let here = wider numbers (with extent n) wide is in
    All-cons (IsWithin wide) n numbers (omega (arith, ints, clamps, here.0), omega (arith, ints, clamps, here.1)) (within numbers (Some (with extent n)) wide is)

-- all values of a column without marks
pub values_within : (rows : ℕ) (nulls : List Bool) (numbers : List ℤ) (extent : Option Extent) → nulls ≡ [] → length numbers ≤ rows → extent ≡ extent_of rows (bigint_cells nulls numbers)
    → IfSome extent (λ extent. All (IsWithin extent) numbers)
values_within rows nulls numbers None none all is = tt
values_within rows nulls numbers (Some wide) none all is =
    within numbers None wide (fold_plain number extent_with None rows nulls numbers numbers none (sym (take_all rows numbers all)) ∙ sym is)
