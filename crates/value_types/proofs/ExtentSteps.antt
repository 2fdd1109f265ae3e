-- Numbers that are taken in one after another.
use Rattle.std.proofs.Common.{◌≡◌, ℕ, ℤ, zero, suc, ◌+◌, ◌<◌, List, [], ◌∷◌, Option, Some, None, length, take, drop, map, get_or, refl, sym, ap, ◌∙◌, add-one, arith}
use Rattle.std.specs.Prelude.{slice_get}
use Rattle.std.specs.Int.{int_min, int_max}
use Rattle.std.specs.List.{fold}
use Rattle.std.proofs.lemmas.Int.{ints, clamps}
use Rattle.value_types.specs.declared.extent.Extent.{Extent}
use Rattle.value_types.specs.declared.types.Value.TheVariants as values
use Rattle.value_types.specs.Datum.{Datum, null, text, typed}
use Rattle.value_types.specs.Extent.{extent_with, taking_in, widened}

-- one number more
next_number : (numbers : List ℤ) (k : ℕ) (number : ℤ) (first : Option Extent) → k < length numbers → number ≡ get_or numbers k number
    → fold extent_with first (map (λ n. typed (values.Int n)) (take (suc k) numbers)) ≡ extent_with (fold extent_with first (map (λ n. typed (values.Int n)) (take k numbers))) (typed (values.Int number))
next_number [] k number first within is = absurd (let no : ⊥ = omega (arith, within) in no)
next_number (n ∷ numbers) zero number first within is = ap (λ z. extent_with first (typed (values.Int z))) (sym is)
next_number (n ∷ numbers) (suc k) number first within is = next_number numbers k number (extent_with first (typed (values.Int n))) (omega (arith, within)) is

pub one_number_more : (numbers : List ℤ) (k : ℕ) (number : ℤ) (first : Option Extent) (so_far more : Extent) → k < length numbers → number ≡ get_or numbers k number
    → Some so_far ≡ fold extent_with first (map (λ n. typed (values.Int n)) (take k numbers)) → more ≡ record { least = int_min so_far.least number; greatest = int_max so_far.greatest number }
    → Some more ≡ fold extent_with first (map (λ n. typed (values.Int n)) (take (k + 1) numbers))
one_number_more numbers k number first so_far more within is are told =
    rw add-one (ap Some told ∙ ap (λ extent. extent_with extent (typed (values.Int number))) are ∙ sym (next_number numbers k number first within is))

-- the extent of numbers is that of the first, and the others
pub first_number : (numbers : List ℤ) (first : ℤ) → slice_get numbers 0 ≡ Some first
    → fold extent_with (Some (record { least = first; greatest = first })) (map (λ n. typed (values.Int n)) (drop 1 numbers)) ≡ fold extent_with None (map (λ n. typed (values.Int n)) numbers)
first_number [] first at = absurd (let no : ⊥ = cc in no)
first_number (n ∷ numbers) first at =
    let same : n ≡ first = cc in
    ap (λ z. fold extent_with (Some (record { least = z; greatest = z })) (map (λ n. typed (values.Int n)) numbers)) (sym same)

-- ---- the extent of two

least_assoc : (a b c : ℤ) → int_min (int_min a b) c ≡ int_min a (int_min b c)
least_assoc a b c = omega (arith, ints, clamps)

greatest_assoc : (a b c : ℤ) → int_max (int_max a b) c ≡ int_max a (int_max b c)
greatest_assoc a b c = omega (arith, ints, clamps)

widened-number : (first so_far : Option Extent) (n : ℤ) → taking_in (widened first so_far) n ≡ widened first (taking_in so_far n)
widened-number None so_far n = refl
widened-number (Some first) None n = refl
widened-number (Some first) (Some so_far) n =
    λ i. Some (record { least = least_assoc first.least so_far.least n i; greatest = greatest_assoc first.greatest so_far.greatest n i })

widened-next : (first so_far : Option Extent) (cell : Datum) → extent_with (widened first so_far) cell ≡ widened first (extent_with so_far cell)
widened-next first so_far null = refl
widened-next first so_far (text bytes) = refl
widened-next first so_far (typed (values.Int n)) = widened-number first so_far n
widened-next first so_far (typed (values.Bool b)) = refl
widened-next first so_far (typed (values.Date day)) = refl
widened-next first so_far (typed (values.Time micros)) = refl
widened-next first so_far (typed (values.Stamp stamp)) = refl

widened-cells : (first so_far : Option Extent) (cells : List Datum) → fold extent_with (widened first so_far) cells ≡ widened first (fold extent_with so_far cells)
widened-cells first so_far [] = refl
widened-cells first so_far (cell ∷ cells) =
    ap (λ extent. fold extent_with extent cells) (widened-next first so_far cell) ∙ widened-cells first (extent_with so_far cell) cells

alone : (extent : Option Extent) → widened extent None ≡ extent
alone None = refl
alone (Some extent) = refl

-- cells taken in behind others widen their extent by their own
pub fold-widened : (first : Option Extent) (cells : List Datum) → widened first (fold extent_with None cells) ≡ fold extent_with first cells
fold-widened first cells = sym (widened-cells first None cells) ∙ ap (λ extent. fold extent_with extent cells) (alone first)
