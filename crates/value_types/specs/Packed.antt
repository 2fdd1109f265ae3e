-- Numbers as what they have over the least one.
use Rattle.std.specs.Prelude.{ℕ, ℤ, pos, ◌+ℤ◌, ◌≤ℤ◌, List, map}
use Rattle.std.specs.Int.{saturate_signed, w64}
use Rattle.value_types.specs.declared.extent.Extent.{Extent}
use Rattle.value_types.specs.declared.bigint_view.NumbersView.{NumbersView}
use Rattle.value_types.specs.declared.bigint_view.NumbersView.TheVariants as views
use Rattle.value_types.specs.declared.offsets.Offsets.{Offsets}
use Rattle.value_types.specs.declared.packed.Packed.{Packed}
use Rattle.value_types.specs.declared.packed.Packed.TheVariants as widths

-- the number that has so much over the least one, within 64 bits
abbrev pub number_over : ℤ → ℕ → ℤ
number_over least over = saturate_signed w64 (least +ℤ pos over)

abbrev pub numbers_over : {A : Type 0} → (A → ℕ) → Offsets A → List ℤ
numbers_over worth offsets = map (λ over. number_over offsets.least (worth over)) offsets.over.items

abbrev pub packed_numbers : Packed → List ℤ
packed_numbers (widths.Bytes offsets) = numbers_over (λ n. n) offsets
packed_numbers (widths.Shorts offsets) = numbers_over (λ n. n) offsets
packed_numbers (widths.Words offsets) = numbers_over (λ n. n) offsets

-- the numbers of a view, whatever they are kept in
abbrev pub numbers_in : NumbersView → List ℤ
numbers_in (views.Wide numbers) = numbers.now
numbers_in (views.Packed packed) = packed_numbers packed.now

-- between the least and the greatest
abbrev pub IsWithin : Extent → ℤ → Type 0
IsWithin extent n = (extent.least ≤ℤ n) × (n ≤ℤ extent.greatest)
