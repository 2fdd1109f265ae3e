-- Bytes that may stand in a plain value of some type.
use Rattle.std.proofs.Common.{◌≡◌, ℕ, Bool, true, List, [], ◌∷◌, refl, arith}
use Rattle.std.specs.List.{list_all}
use Rattle.std.specs.Char.{is_ascii_alphabetic}
use Rattle.std.proofs.lemmas.Bool.{and_from, and_parts}
use Rattle.value_types.specs.Digits.{is_numeral}
use Rattle.value_types.specs.KeptTypes.{is_value_byte}
use Rattle.value_types.specs.Plain.{is_clock_byte, is_stamp_byte}

all_weaker : (p q : ℕ → Bool) → ((b : ℕ) → p b ≡ true → q b ≡ true) → (bytes : List ℕ) → list_all p bytes ≡ true → list_all q bytes ≡ true
all_weaker p q weaker [] all = refl
all_weaker p q weaker (b ∷ bytes) all = let parts = and_parts (p b) (list_all p bytes) all in and_from _ _ (weaker b parts.0) (all_weaker p q weaker bytes parts.1)

pub values_letters : (bytes : List ℕ) → list_all is_ascii_alphabetic bytes ≡ true → list_all is_value_byte bytes ≡ true
values_letters bytes all = all_weaker is_ascii_alphabetic is_value_byte (λ b is. grind (arith, is)) bytes all

pub values_numerals : (bytes : List ℕ) → list_all is_numeral bytes ≡ true → list_all is_value_byte bytes ≡ true
values_numerals bytes all = all_weaker is_numeral is_value_byte (λ b is. grind (arith, is)) bytes all

pub values_clock : (bytes : List ℕ) → list_all is_clock_byte bytes ≡ true → list_all is_value_byte bytes ≡ true
values_clock bytes all = all_weaker is_clock_byte is_value_byte (λ b is. grind (arith, is)) bytes all

pub values_stamp : (bytes : List ℕ) → list_all is_stamp_byte bytes ≡ true → list_all is_value_byte bytes ≡ true
values_stamp bytes all = all_weaker is_stamp_byte is_value_byte (λ b is. grind (arith, is)) bytes all
