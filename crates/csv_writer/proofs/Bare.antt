-- Decimal digits stand for themselves, shown in a report or in a CSV text.
use Rattle.std.proofs.Common.{◌≡◌, ℕ, zero, suc, ◌+◌, ◌/◌, ◌%◌, ◌<◌, ◌≤◌, true, false, cond, List, [], ◌∷◌, ◌++◌, length, refl, ap, ap₂, subst, sym, ◌∙◌, arith}
use Rattle.std.specs.Prelude.{◌==◌, ◌&&◌, ◌||◌, nat_eq, nat_lt}
use Rattle.std.specs.List.{AllByRecursion, list_any, starts_with}
use Rattle.std.specs.Fmt.{decimal, digits, digits_onto, digit_glyph}
use Rattle.std.proofs.lemmas.Bool.{ne_eqb, lt-ltb, or_from}
use Rattle.csv_source.specs.Shown.{shown, shown_byte}
use Rattle.reject_book.specs.declared.reject.ErrorKind.{ErrorKind}
use Rattle.reject_book.specs.declared.reject.ErrorKind.TheVariants.{Cast, MissingColumns, TooManyColumns, UnquotedValue, LineSize, InvalidUnicode}
use Rattle.reject_book.specs.Kind.{name_of_kind}
use Rattle.csv_writer.specs.Quoting.{needs_quotes, quoted, wants_quotes}
use Rattle.csv_writer.specs.WrittenTable.{text_field}

-- a decimal digit
record IsDigit (b : ℕ) : Type 0 where
  low : 48 ≤ b
  high : b < 58

glyph_digit : (n : ℕ) → IsDigit (digit_glyph false (n % 10))
glyph_digit n =
    let small : n % 10 < 10 = omega arith in
    let is : 48 + n % 10 ≡ digit_glyph false (n % 10) = ap (λ t. cond t (48 + n % 10) (87 + n % 10)) (sym (lt-ltb (n % 10) 10 small)) in
    subst IsDigit is (record { low = omega arith; high = omega arith })

-- some digits
record AreDigits (bytes : List ℕ) : Type 0 where
  first : ℕ
  rest : List ℕ
  is : bytes ≡ first ∷ rest
  digit : IsDigit first
  others : AllByRecursion IsDigit rest

with_digit : (b : ℕ) (bytes : List ℕ) → IsDigit b → AllByRecursion IsDigit bytes → AreDigits (b ∷ bytes)
with_digit b bytes digit others = record { first = b; rest = bytes; is = refl; digit = digit; others = others }

onto_digits : (k n : ℕ) (acc : List ℕ) → AllByRecursion IsDigit acc → AreDigits (digits_onto (suc k) 10 false n acc)
onto_digits zero n acc h =
    elim (n / 10 == 0) as (λ t. AreDigits (cond t (digit_glyph false (n % 10) ∷ acc) (digit_glyph false (n % 10) ∷ acc))) [
      | true ↦ with_digit (digit_glyph false (n % 10)) acc (glyph_digit n) h
      | false ↦ with_digit (digit_glyph false (n % 10)) acc (glyph_digit n) h
    ]
onto_digits (suc k) n acc h =
    elim (n / 10 == 0) as (λ t. AreDigits (cond t (digit_glyph false (n % 10) ∷ acc) (digits_onto (suc k) 10 false (n / 10) (digit_glyph false (n % 10) ∷ acc)))) [
      | true ↦ with_digit (digit_glyph false (n % 10)) acc (glyph_digit n) h
      | false ↦ onto_digits k (n / 10) (digit_glyph false (n % 10) ∷ acc) (glyph_digit n, h)
    ]

decimal_digits : (n : ℕ) → AreDigits (decimal n)
unfolding digits
decimal_digits n = onto_digits 63 n [] tt

-- ---- shown

shown_digit : (b : ℕ) → IsDigit b → shown_byte b ≡ b ∷ []
shown_digit b is =
    let backslash : (b == 92) ≡ false = ne_eqb b 92 (λ e. omega (arith, e, is.high)) in
    let bar : (b == 124) ≡ false = ne_eqb b 124 (λ e. omega (arith, e, is.high)) in
    let lf : (b == 10) ≡ false = ne_eqb b 10 (λ e. omega (arith, e, is.low)) in
    let cr : (b == 13) ≡ false = ne_eqb b 13 (λ e. omega (arith, e, is.low)) in
    let tab : (b == 9) ≡ false = ne_eqb b 9 (λ e. omega (arith, e, is.low)) in
    let seen : nat_lt b 32 ≡ false = grind (arith, is.low) in
    let last : (b == 127) ≡ false = ne_eqb b 127 (λ e. omega (arith, e, is.high)) in
    rw (backslash, bar, lf, cr, tab, seen, last) refl

shown_digits : (bytes : List ℕ) → AllByRecursion IsDigit bytes → shown bytes ≡ bytes
shown_digits [] are = refl
shown_digits (b ∷ bytes) are = ap₂ (λ xs ys. xs ++ ys) (shown_digit b are.0) (shown_digits bytes are.1)

pub shown_number : (n : ℕ) → shown (decimal n) ≡ decimal n
shown_number n = by_digits (decimal n) (decimal_digits n) where
  by_digits : (bytes : List ℕ) → AreDigits bytes → shown bytes ≡ bytes
  by_digits bytes are = subst (λ (xs : List ℕ). shown xs ≡ xs) (sym are.is) (shown_digits (are.first ∷ are.rest) (are.digit, are.others))

pub shown_kind : (kind : ErrorKind) → shown (name_of_kind kind) ≡ name_of_kind kind
shown_kind Cast = refl
shown_kind MissingColumns = refl
shown_kind TooManyColumns = refl
shown_kind UnquotedValue = refl
shown_kind LineSize = refl
shown_kind InvalidUnicode = refl

-- ---- in a CSV text

bare_digit : (b : ℕ) → IsDigit b → wants_quotes b ≡ false
bare_digit b is =
    let comma : (b == 44) ≡ false = ne_eqb b 44 (λ e. omega (arith, e, is.low)) in
    let quote : (b == 34) ≡ false = ne_eqb b 34 (λ e. omega (arith, e, is.low)) in
    let lf : (b == 10) ≡ false = ne_eqb b 10 (λ e. omega (arith, e, is.low)) in
    let cr : (b == 13) ≡ false = ne_eqb b 13 (λ e. omega (arith, e, is.low)) in
    rw (comma, quote, lf, cr) refl

bare_digits : (bytes : List ℕ) → AllByRecursion IsDigit bytes → list_any wants_quotes bytes ≡ false
bare_digits [] are = refl
bare_digits (b ∷ bytes) are = or_from (wants_quotes b) (list_any wants_quotes bytes) (bare_digit b are.0) (bare_digits bytes are.1)

no_mark : (b : ℕ) (bytes : List ℕ) → IsDigit b → needs_quotes (b ∷ bytes) ≡ list_any wants_quotes (b ∷ bytes)
no_mark b bytes is =
    let some : (suc (length bytes) == 0) ≡ false = ne_eqb (suc (length bytes)) 0 (λ e. omega (arith, e)) in
    let other : (0xEF == b) ≡ false = ne_eqb 0xEF b (λ e. omega (arith, e, is.high)) in
    ap (λ t. t || (0xEF == b && starts_with nat_eq bytes (0xBB ∷ 0xBF ∷ [])) || list_any wants_quotes (b ∷ bytes)) some
    ∙ ap (λ t. (t && starts_with nat_eq bytes (0xBB ∷ 0xBF ∷ [])) || list_any wants_quotes (b ∷ bytes)) other

pub bare_number : (n : ℕ) → text_field (decimal n) ≡ decimal n
bare_number n = by_digits (decimal n) (decimal_digits n) where
  by_digits : (bytes : List ℕ) → AreDigits bytes → text_field bytes ≡ bytes
  by_digits bytes are =
      let all : List ℕ = are.first ∷ are.rest in
      subst (λ (xs : List ℕ). text_field xs ≡ xs) (sym are.is)
      (ap (λ t. cond t (quoted all) all) (no_mark are.first are.rest are.digit ∙ bare_digits all (are.digit, are.others)))
