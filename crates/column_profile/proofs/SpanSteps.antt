-- Spans that take in values one after another, or all at once.
use Rattle.std.proofs.Common.{◌≡◌, ℕ, ℤ, zero, suc, Bool, true, false, List, [], ◌∷◌, Option, Some, None, take, refl, sym, ap, ◌∙◌, arith}
use Rattle.std.specs.Prelude.{int_lt, if◌then◌else◌}
use Rattle.std.specs.Int.{int_min, int_max}
use Rattle.std.specs.List.{fold}
use Rattle.std.proofs.lemmas.Int.{ints}
use Rattle.value_types.specs.declared.extent.Extent.{Extent}
use Rattle.value_types.specs.declared.types.Value.{Value}
use Rattle.value_types.specs.Datum.{Datum, null, text, typed}
use Rattle.value_types.specs.Extent.{extent_with, taking_in}
use Rattle.value_types.specs.Marked.{marked, bigint_cells}
use Rattle.column_profile.specs.declared.span.Span.{Span}
use Rattle.column_profile.specs.Folded.{joined, span_by}
use Rattle.column_profile.specs.Tally.{span_with, spanned}
use Rattle.column_profile.specs.Values.{lesser, greater, number_of}

-- ---- the first of three

-- where the order of three is as two tests say, the third test is
passes : (a b c : ℤ) → int_lt a b ≡ true → int_lt b c ≡ true → int_lt a c ≡ true
passes a b c first second = grind (arith, ints)

fails : (a b c : ℤ) → int_lt a b ≡ false → int_lt b c ≡ false → int_lt a c ≡ false
fails a b c first second = grind (arith, ints)

module _ {V : Type 0} (before : V → V → Bool) where
  abbrev first : V → V → V
  first a b = if before b a then b else a

  first_assoc : ((a b c : V) → before a b ≡ true → before b c ≡ true → before a c ≡ true) → ((a b c : V) → before a b ≡ false → before b c ≡ false → before a c ≡ false)
      → (a b c : V) → first (first a b) c ≡ first a (first b c)
  first_assoc passing failing a b c =
      let P : Bool → Bool → Bool → Type 0 = λ x y z. (x ≡ before b a) → (y ≡ before c b) → (z ≡ before c a) → (if before c (if x then b else a) then c else (if x then b else a)) ≡ (if before (if y then c else b) a then (if y then c else b) else a) in
      let all : (x y z : Bool) → P x y z = λ x y z. elim x as (λ x. P x y z) [
        | true ↦ elim y as (λ y. P true y z) [
          | true ↦ (λ p q r. ap (λ (t : Bool). if t then c else b) (sym q) ∙ sym (ap (λ (t : Bool). if t then c else a) (passing c b a (sym q) (sym p))))
          | false ↦ (λ p q r. ap (λ (t : Bool). if t then c else b) (sym q) ∙ sym (ap (λ (t : Bool). if t then b else a) (sym p)))
        ]
        | false ↦ elim y as (λ y. P false y z) [
          | true ↦ (λ p q r. refl)
          | false ↦ (λ p q r. ap (λ (t : Bool). if t then c else a) (failing c b a (sym q) (sym p)) ∙ sym (ap (λ (t : Bool). if t then b else a) (sym p)))
        ]
      ] in
      all (before b a) (before c b) (before c a) refl refl refl

least_assoc : (a b c : Value) → lesser (lesser a b) c ≡ lesser a (lesser b c)
least_assoc = first_assoc (λ a b. int_lt (number_of a) (number_of b)) (λ a b c. passes (number_of a) (number_of b) (number_of c)) (λ a b c. fails (number_of a) (number_of b) (number_of c))

greatest_assoc : (a b c : Value) → greater (greater a b) c ≡ greater a (greater b c)
greatest_assoc = first_assoc (λ a b. int_lt (number_of b) (number_of a)) (λ a b c p q. passes (number_of c) (number_of b) (number_of a) q p)
    (λ a b c p q. fails (number_of c) (number_of b) (number_of a) q p)

-- ---- the span of two

joined-value : (span so_far : Option Span) (value : Value) → spanned (joined span so_far) value ≡ joined span (spanned so_far value)
joined-value None so_far value = refl
joined-value (Some span) None value = refl
joined-value (Some span) (Some so_far) value =
    λ i. Some (record { least = least_assoc span.least so_far.least value i; greatest = greatest_assoc span.greatest so_far.greatest value i })

joined-cell : (span so_far : Option Span) (cell : Datum) → span_with (joined span so_far) cell ≡ joined span (span_with so_far cell)
joined-cell span so_far null = refl
joined-cell span so_far (typed value) = joined-value span so_far value
joined-cell span so_far (text bytes) = refl

joined-cells : (span so_far : Option Span) (cells : List Datum) → fold span_with (joined span so_far) cells ≡ joined span (fold span_with so_far cells)
joined-cells span so_far [] = refl
joined-cells span so_far (cell ∷ cells) =
    ap (λ s. fold span_with s cells) (joined-cell span so_far cell) ∙ joined-cells span (span_with so_far cell) cells

alone : (span : Option Span) → joined span None ≡ span
alone None = refl
alone (Some span) = refl

-- cells taken in behind others join their span to the others'
pub fold-joined : (span : Option Span) (cells : List Datum) → joined span (fold span_with None cells) ≡ fold span_with span cells
fold-joined span cells = sym (joined-cells span None cells) ∙ ap (λ s. fold span_with s cells) (alone span)

-- ---- values made of numbers

module _ (make : ℤ → Value) (made : (n : ℤ) → number_of (make n) ≡ n) where
  least_made : (a b : ℤ) → lesser (make a) (make b) ≡ make (int_min a b)
  least_made a b =
      let P : Bool → Type 0 = λ t. (if t then make b else make a) ≡ make (if t then b else a) in
      let each : (t : Bool) → P t = λ t. elim t as P [ true ↦ refl | false ↦ refl ] in
      (λ i. if int_lt (made b i) (made a i) then make b else make a) ∙ each (int_lt b a)

  greatest_made : (a b : ℤ) → greater (make a) (make b) ≡ make (int_max a b)
  greatest_made a b = (λ i. if int_lt (made a i) (made b i) then make b else make a) ∙ later a b
    where
      later : (a b : ℤ) → (if int_lt a b then make b else make a) ≡ make (int_max a b)
      later a b =
          let under : int_lt a b ≡ true → int_max a b ≡ b = λ h. grind (arith, ints) in
          let over : int_lt a b ≡ false → int_max a b ≡ a = λ h. grind (arith, ints) in
          let P : Bool → Type 0 = λ t. int_lt a b ≡ t → (if t then make b else make a) ≡ make (int_max a b) in
          let each : (t : Bool) → P t = λ t. elim t as P [ true ↦ (λ h. ap make (sym (under h))) | false ↦ (λ h. ap make (sym (over h))) ] in
          ap (λ (t : Bool). if t then make b else make a) refl ∙ each (int_lt a b) refl

  made-number : (extent : Option Extent) (n : ℤ) → spanned (span_by make extent) (make n) ≡ span_by make (taking_in extent n)
  made-number None n = refl
  made-number (Some extent) n = λ i. Some (record { least = least_made extent.least n i; greatest = greatest_made extent.greatest n i })

  -- the span of such values is made of the extent of the numbers
  made-cells : (extent : Option Extent) (k : ℕ) (nulls : List Bool) (numbers : List ℤ)
      → fold span_with (span_by make extent) (take k (marked (λ n. typed (make n)) nulls numbers)) ≡ span_by make (fold extent_with extent (take k (bigint_cells nulls numbers)))
  made-cells extent zero nulls numbers = refl
  made-cells extent (suc k) nulls [] = refl
  made-cells extent (suc k) [] (n ∷ numbers) =
      ap (λ s. fold span_with s (take k (marked (λ n. typed (make n)) [] numbers))) (made-number extent n) ∙ made-cells (taking_in extent n) k [] numbers
  made-cells extent (suc k) (true ∷ nulls) (n ∷ numbers) = made-cells extent k nulls numbers
  made-cells extent (suc k) (false ∷ nulls) (n ∷ numbers) =
      ap (λ s. fold span_with s (take k (marked (λ n. typed (make n)) nulls numbers))) (made-number extent n) ∙ made-cells (taking_in extent n) k nulls numbers

  pub made-joined : (span : Option Span) (extent : Option Extent) (k : ℕ) (nulls : List Bool) (numbers : List ℤ) → extent ≡ fold extent_with None (take k (bigint_cells nulls numbers))
      → joined span (span_by make extent) ≡ fold span_with span (take k (marked (λ n. typed (make n)) nulls numbers))
  made-joined span extent k nulls numbers is =
      ap (λ e. joined span (span_by make e)) is ∙ ap (joined span) (sym (made-cells None k nulls numbers))
      ∙ fold-joined span (take k (marked (λ n. typed (make n)) nulls numbers))
