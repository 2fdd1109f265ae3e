-- Numbers of two digits.
use Rattle.std.proofs.Common.{◌≡◌, ℕ, ◌+◌, ◌-◌, ◌/◌, ◌%◌, ◌<◌, [], ◌∷◌, ◌++◌, length, replicate, sym, ap, ◌∙◌, arith, inl, inr, codes}
use Rattle.std.proofs.lemmas.Bool.{cases_lt}
use Rattle.std.proofs.lemmas.Fmt.{decimal_digit, decimal_step}
use Rattle.value_types.specs.ValueText.{padded}

two_digits : (n : ℕ) → n < 100 → padded 2 n ≡ (48 + n / 10) ∷ (48 + n % 10) ∷ []
two_digits n h = elim (cases_lt n 10) [
  | inl low ↦
      (let first : 48 ≡ 48 + n / 10 = omega arith in
      let last : 48 + n ≡ 48 + n % 10 = omega arith in
      ap (λ ds. replicate (2 - length ds) 48 ++ ds) (decimal_digit n low) ∙ (λ i. first i ∷ last i ∷ []))
  | inr high ↦
      ap (λ ds. replicate (2 - length ds) 48 ++ ds)
      (decimal_step n high (omega (arith, h)) ∙ ap (λ ds. ds ++ (48 + n % 10) ∷ []) (decimal_digit (n / 10) (omega (arith, h))))
]

-- a day of the year 2000, by its digits
pub day_text : (m d a b e f : ℕ) → m < 100 → d < 100 → a ≡ 48 + m / 10 → b ≡ 48 + m % 10 → e ≡ 48 + d / 10 → f ≡ 48 + d % 10
    → 50 ∷ 48 ∷ 48 ∷ 48 ∷ 45 ∷ a ∷ b ∷ 45 ∷ e ∷ f ∷ [] ≡ codes "2000-" ++ padded 2 m ++ codes "-" ++ padded 2 d
day_text m d a b e f month day first second third fourth =
    (λ i. 50 ∷ 48 ∷ 48 ∷ 48 ∷ 45 ∷ first i ∷ second i ∷ 45 ∷ third i ∷ fourth i ∷ [])
    ∙ (λ i. codes "2000-" ++ sym (two_digits m month) i ++ codes "-" ++ sym (two_digits d day) i)
