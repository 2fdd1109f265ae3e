-- Bytes that a sample doesn't have: a search for one ends where the sample ends.
use Rattle.std.proofs.Common.{◌≡◌, ℕ, Bool, true, false, not, List, length, get_or, refl, sym, ◌∙◌, ap, subst, inl, inr, arith}
use Rattle.std.specs.Prelude.{◌==◌, All, Option, None, Some}
use Rattle.std.specs.List.{list_any}
use Rattle.std.proofs.lemmas.Bool.{cases_lt, cases_Bool, eq-eqb, ne_eqb}
use Rattle.std.proofs.lemmas.List.{get_or_default}
use Rattle.std.proofs.lemmas.List.Folds.{list_any_at, list_any_none}
use Rattle.byte_classes.specs.Dialect.{is_byte}
use Rattle.byte_classes.specs.Places.{first_place}
use Rattle.byte_classes.proofs.SearchLaws.{Tells, first_place-tells}
use Rattle.dialect_rank.specs.Absent.{is_absent, lacks}

other_way : (a b : ℕ) → (a == b) ≡ false → (b == a) ≡ false
other_way a b h = grind arith

-- the first place of a byte is the end where the byte is absent
pub absent-is : (sample : List ℕ) (wanted r : ℕ) → r ≡ first_place (λ k. get_or sample k 0 == wanted) 0 sample → (r == length sample) ≡ is_absent wanted sample
absent-is sample wanted r found =
    let test : ℕ → Bool = λ k. get_or sample k 0 == wanted in
    let h : Tells test 0 (length sample) r = subst (Tells test 0 (length sample)) (sym found) (first_place-tells test 0 sample (omega arith)) in
    elim (cases_lt r (length sample)) [
      | inl lt ↦ ne_eqb r (length sample) (λ e. omega (arith, lt, e)) ∙ sym (ap not (list_any_at (λ b. b == wanted) sample r 0 lt (h.found lt)))
      | inr end ↦ eq-eqb r (length sample) (omega (arith, end, h.high))
          ∙ sym (ap not (list_any_none (λ b. b == wanted) sample (λ k other lt. ap (λ b. b == wanted) (get_or_default sample k other 0 lt) ∙ h.none k (omega arith) (omega (arith, lt, end)))))
    ]

-- none of the bytes is one that is absent
pub absent_each : (sample : List ℕ) (wanted : ℕ) → is_absent wanted sample ≡ true → All (λ b. (b == wanted) ≡ false) sample
absent_each sample wanted absent k other lt = elim (cases_Bool (get_or sample k other == wanted)) [
  | inl same ↦ absurd (let found : list_any (λ b. b == wanted) sample ≡ true = list_any_at (λ b. b == wanted) sample k other lt same in let no : ⊥ = cc in no)
  | inr apart ↦ apart
]

pub lacking : (sample : List ℕ) (wanted : Option ℕ) → lacks sample wanted ≡ true → All (λ b. is_byte wanted b ≡ false) sample
lacking sample None h k other lt = refl
lacking sample (Some wanted) h k other lt = other_way (get_or sample k other) wanted (absent_each sample wanted h k other lt)
