-- Dates, times and numbers as the blocks in which they are printed.
use Rattle.std.proofs.Common.{◌≡◌, ◌≢◌, ℕ, ◌+◌, ◌-◌, ◌*◌, ◌/◌, ◌%◌, ◌^◌, ◌<◌, ◌≤◌, refl, sym, ap, ◌∙◌, subst, arith, List, [], ◌∷◌, ◌++◌, length, length-append, append_assoc, codes, ℤ}
use Rattle.std.specs.Fmt.{decimal}
use Rattle.std.specs.Simd.Lanes.{Each1}
use Rattle.std.proofs.lemmas.Fmt.{IsAscii-decimal}
use Rattle.std.proofs.lemmas.Simd.{Each1-from_get_or}
use Rattle.std.proofs.Math.Nat.{pow-le-pow_right, mul-le-mul_left, mul_comm}
use Rattle.itoa.proofs.Decimal.{decimal_four}
use Rattle.value_types.specs.ClockTime.{day_micros}
use Rattle.value_types.specs.ValueText.{date_text, padded, time_text}
use Rattle.value_types.specs.Words.{IsBlock, word_of}
use Rattle.value_types.proofs.DateTexts.{IsShort, bytes_of_date, date_bytes}
use Rattle.value_types.proofs.Padded.{glyph}
use Rattle.value_types.proofs.PrintSteps.{whole_seconds, with_fraction}
use Rattle.value_types.proofs.PrintedDigits.{eight_written, four_written, power, zeros, zeros_below}
use Rattle.value_types.proofs.TimeTexts.{fraction_bytes, time_bytes}
use Rattle.value_types.proofs.WordTexts.{number-append}

-- a block with so many bytes of text
pub record IsBlockOf (text : List ℕ) (count block : ℕ) : Type 0 where
  pub is : IsBlock text block
  pub long : length text ≡ count

-- the word of a pair's digits
abbrev pair_word : ℕ → ℕ → ℕ
pair_word a b = (48 + a) + 256 * (48 + b)

-- ---- dates

date_bytes_below : (y m d : ℕ) → IsShort y m d → Each1 (λ b. b < 256) (date_bytes y m d)
date_bytes_below y m d h = (
  omega (arith, h.year),
  (omega arith, (omega arith, (omega arith, (omega arith, (omega (arith, h.month), (omega arith, (omega arith, (omega (arith, h.day), (omega arith, tt))))))))),
)

date_joined : (p q r s a b c e f g h i block : ℕ) → p ≡ pair_word a b → q ≡ pair_word c e → r ≡ pair_word f g → s ≡ pair_word h i →
    block ≡ (p + q * 65_536 + 45 * 4_294_967_296 + r * 1_099_511_627_776 + 45 * 72_057_594_037_927_936) + 18_446_744_073_709_551_616 * s →
    block ≡ word_of (glyph a ∷ glyph b ∷ glyph c ∷ glyph e ∷ 45 ∷ glyph f ∷ glyph g ∷ 45 ∷ glyph h ∷ glyph i ∷ [])
date_joined p q r s a b c e f g h i block ep eq er es is = omega (arith, ep, eq, er, es, is)

pub date_block : (z : ℤ) (y m d p q r s block : ℕ) → date_text z ≡ padded 4 y ++ codes "-" ++ padded 2 m ++ codes "-" ++ padded 2 d → IsShort y m d →
    p ≡ pair_word (y / 100 / 10) (y / 100 % 10) → q ≡ pair_word (y % 100 / 10) (y % 100 % 10) → r ≡ pair_word (m / 10) (m % 10) → s ≡ pair_word (d / 10) (d % 10) →
    block ≡ (p + q * 65_536 + 45 * 4_294_967_296 + r * 1_099_511_627_776 + 45 * 72_057_594_037_927_936) + 18_446_744_073_709_551_616 * s →
    IsBlockOf (date_text z) 10 block
date_block z y m d p q r s block text short ep eq er es is =
    let a : y / 100 / 10 ≡ y / 1000 = omega arith in
    let c : y % 100 / 10 ≡ y / 10 % 10 = omega arith in
    let e : y % 100 % 10 ≡ y % 10 = omega arith in
    subst (λ t. IsBlockOf t 10 block) (sym (text ∙ bytes_of_date y m d short)) (record {
      is = record {
        short = omega arith;
        bytes = date_bytes_below y m d short;
        makes =
            date_joined p q r s _ _ _ _ _ _ _ _ block ep eq er es is
            ∙ (λ i. word_of (glyph (a i) ∷ glyph (y / 100 % 10) ∷ glyph (c i) ∷ glyph (e i) ∷ 45 ∷ glyph (m / 10) ∷ glyph (m % 10) ∷ 45 ∷ glyph (d / 10) ∷ glyph (d % 10) ∷ []));
      };
      long = refl;
    })

-- ---- times

clock_joined : (p q r a b c e f g first : ℕ) → p ≡ pair_word a b → q ≡ pair_word c e → r ≡ pair_word f g →
    first ≡ p + 58 * 65_536 + q * 16_777_216 + 58 * 1_099_511_627_776 + r * 281_474_976_710_656 →
    first ≡ word_of (glyph a ∷ glyph b ∷ 58 ∷ glyph c ∷ glyph e ∷ 58 ∷ glyph f ∷ glyph g ∷ [])
clock_joined p q r a b c e f g first ep eq er is = omega (arith, ep, eq, er, is)

fraction_joined : (p q r a b c e f g second : ℕ) → p ≡ pair_word a b → q ≡ pair_word c e → r ≡ pair_word f g →
    second ≡ 46 + p * 256 + q * 16_777_216 + r * 1_099_511_627_776 →
    second ≡ word_of (46 ∷ glyph a ∷ glyph b ∷ glyph c ∷ glyph e ∷ glyph f ∷ glyph g ∷ [])
fraction_joined p q r a b c e f g second ep eq er is = omega (arith, ep, eq, er, is)

-- the digits of a clock
pub record IsClock (n first : ℕ) : Type 0 where
  pub short : n < day_micros
  pub makes : first ≡ word_of (time_bytes (n / 1_000_000 / 3600) (n / 1_000_000 / 60 % 60) (n / 1_000_000 % 60) [])

pub clock_from : (n p q r first : ℕ) → n < day_micros → p ≡ pair_word (n / 1_000_000 / 3600 / 10) (n / 1_000_000 / 3600 % 10) →
    q ≡ pair_word (n / 1_000_000 / 60 % 60 / 10) (n / 1_000_000 / 60 % 60 % 10) → r ≡ pair_word (n / 1_000_000 % 60 / 10) (n / 1_000_000 % 60 % 10) →
    first ≡ p + 58 * 65_536 + q * 16_777_216 + 58 * 1_099_511_627_776 + r * 281_474_976_710_656 → IsClock n first
clock_from n p q r first short ep eq er is = record { short = short; makes = clock_joined p q r _ _ _ _ _ _ first ep eq er is }

-- with other bytes behind
clock_below : (h m s : ℕ) (more : List ℕ) → h < 100 → m < 100 → s < 100 → Each1 (λ b. b < 256) more → Each1 (λ b. b < 256) (time_bytes h m s more)
clock_below h m s more H M S each =
    (omega (arith, H), (omega arith, (omega arith, (omega (arith, M), (omega arith, (omega arith, (omega (arith, S), (omega arith, each))))))))

pub clock_block : (n first block : ℕ) → IsClock n first → n % 1_000_000 ≡ 0 → block ≡ first + 18_446_744_073_709_551_616 * 0 → IsBlockOf (time_text n) 8 block
clock_block n first block clock none is =
    subst (λ t. IsBlockOf t 8 block) (whole_seconds n clock.short none) (record {
      is = record {
        short = omega arith;
        bytes = clock_below (n / 1_000_000 / 3600) (n / 1_000_000 / 60 % 60) (n / 1_000_000 % 60) [] (omega (arith, clock.short)) (omega arith) (omega arith) tt;
        makes = omega (arith, is, clock.makes);
      };
      long = refl;
    })

pub fraction_block : (n first second p q r block : ℕ) → IsClock n first → n % 1_000_000 ≢ 0 →
    p ≡ pair_word (n % 1_000_000 / 10_000 / 10) (n % 1_000_000 / 10_000 % 10) → q ≡ pair_word (n % 1_000_000 / 100 % 100 / 10) (n % 1_000_000 / 100 % 100 % 10) →
    r ≡ pair_word (n % 1_000_000 % 100 / 10) (n % 1_000_000 % 100 % 10) → second ≡ 46 + p * 256 + q * 16_777_216 + r * 1_099_511_627_776 →
    block ≡ first + 18_446_744_073_709_551_616 * second → IsBlockOf (time_text n) 15 block
fraction_block n first second p q r block clock some ep eq er es is =
    let f : ℕ = n % 1_000_000 in
    let a : f / 10_000 / 10 ≡ f / 100000 = omega arith in
    let c : f / 100 % 100 / 10 ≡ f / 1000 % 10 = omega arith in
    let e : f / 100 % 100 % 10 ≡ f / 100 % 10 = omega arith in
    let g : f % 100 / 10 ≡ f / 10 % 10 = omega arith in
    let h : f % 100 % 10 ≡ f % 10 = omega arith in
    let behind : second ≡ word_of (fraction_bytes f) =
    fraction_joined p q r _ _ _ _ _ _ second ep eq er es ∙ (λ i. word_of (46 ∷ glyph (a i) ∷ glyph (f / 10_000 % 10) ∷ glyph (c i) ∷ glyph (e i) ∷ glyph (g i) ∷ glyph (h i) ∷ [])) in
    let small : f < 1_000_000 = omega arith in
    subst (λ t. IsBlockOf t 15 block) (with_fraction n clock.short some) (record {
      is = record {
        short = omega arith;
        bytes =
            clock_below (n / 1_000_000 / 3600) (n / 1_000_000 / 60 % 60) (n / 1_000_000 % 60) (fraction_bytes f) (omega (arith, clock.short)) (omega arith) (omega arith)
            (omega arith, (omega (arith, small), (omega arith, (omega arith, (omega arith, (omega arith, (omega arith, tt)))))));
        makes = omega (arith, is, clock.makes, behind);
      };
      long = refl;
    })

-- ---- numbers

decimal_below : (n : ℕ) → n < 2 ^ 64 → Each1 (λ b. b < 256) (decimal n)
decimal_below n small = Each1-from_get_or (λ b. b < 256) (decimal n) 0 (λ i lt. omega (arith, IsAscii-decimal n small i))

each-append : (xs ys : List ℕ) → Each1 (λ b. b < 256) xs → Each1 (λ b. b < 256) ys → Each1 (λ b. b < 256) (xs ++ ys)
each-append [] ys first second = second
each-append (x ∷ xs) ys first second = (first.0, each-append xs ys first.1 second)

-- a number of more than four digits, the last four of them apart
pub four_apart : (n : ℕ) → 10_000 ≤ n → n < 2 ^ 64 → decimal (n / 10_000) ++ padded 4 (n % 10_000) ≡ decimal n
four_apart n high small = ap (λ ds. decimal (n / 10_000) ++ ds) (four_written (n % 10_000) (omega arith)) ∙ sym (decimal_four n high small)

-- and of more than eight
pub eight_apart : (n : ℕ) → 100_000_000 ≤ n → n < 2 ^ 64 → decimal (n / 100_000_000) ++ padded 8 (n % 100_000_000) ≡ decimal n
eight_apart n high small =
    let front : n / 100_000_000 ≡ n / 10_000 / 10_000 = omega arith in
    let a : n % 100_000_000 / 10_000 ≡ n / 10_000 % 10_000 = omega arith in
    let b : n % 100_000_000 % 10_000 ≡ n % 10_000 = omega arith in
    ap (λ ds. decimal (n / 100_000_000) ++ ds) (eight_written (n % 100_000_000) (omega arith))
    ∙ (λ i. decimal (front i) ++ (padded 4 (a i) ++ padded 4 (b i)))
    ∙ sym (append_assoc (decimal (n / 10_000 / 10_000)) (padded 4 (n / 10_000 % 10_000)) (padded 4 (n % 10_000)))
    ∙ ap (λ ds. ds ++ padded 4 (n % 10_000)) (four_apart (n / 10_000) (omega arith) (omega arith))
    ∙ four_apart n (omega arith) small

padded_below : (k n : ℕ) → n < 2 ^ 64 → Each1 (λ b. b < 256) (padded k n)
padded_below k n small = each-append (zeros (k - length (decimal n))) (decimal n) (zeros_below (k - length (decimal n))) (decimal_below n small)

pub four_block : (n word : ℕ) → n < 10_000 → word ≡ word_of (padded 4 n) → IsBlockOf (padded 4 n) 4 word
four_block n word small is =
    let four : length (padded 4 n) ≡ 4 = ap length (four_written n small) in
    record { is = record { short = omega (arith, four); bytes = padded_below 4 n (omega arith); makes = is }; long = four }

pub eight_block : (n word : ℕ) → n < 100_000_000 → word ≡ word_of (padded 8 n) → IsBlockOf (padded 8 n) 8 word
eight_block n word small is =
    let eight : length (padded 8 n) ≡ 8 =
    ap length (eight_written n small ∙ (λ i. four_written (n / 10_000) (omega arith) i ++ four_written (n % 10_000) (omega arith) i)) in
    record { is = record { short = omega (arith, eight); bytes = padded_below 8 n (omega arith); makes = is }; long = eight }

-- a number's digits alone
pub digits_block : (n count word : ℕ) → n < 10_000_000 → word ≡ word_of (decimal n) → count ≡ length (decimal n) → count ≤ 7 → IsBlockOf (decimal n) count word
digits_block n count word small is long short = record {
  is = record { short = omega (arith, long, short); bytes = decimal_below n (omega arith); makes = is };
  long = sym long;
}

-- a word of eight bytes behind at most eight others
moved : (behind count : ℕ) → behind < 2 ^ 64 → count ≤ 8 → behind * 2 ^ (8 * count) % 2 ^ 128 ≡ 256 ^ count * behind
moved behind count small few =
    let most : 256 ^ count ≤ 256 ^ 8 = pow-le-pow_right (omega arith) few in
    let bound : behind * 256 ^ count ≤ behind * 256 ^ 8 = mul-le-mul_left behind most in
    let whole : behind * 256 ^ count % 2 ^ 128 ≡ behind * 256 ^ count = omega (arith, bound, small) in
    ap (λ p. behind * p % 2 ^ 128) (sym (power count few)) ∙ whole ∙ mul_comm behind (256 ^ count)

-- digits, and a word of others behind them
pub longer_block : (front : ℕ) (text : List ℕ) (more count word behind block : ℕ) → front < 10_000_000 → IsBlock text behind → length text ≡ more → more ≤ 8 → behind < 2 ^ 64 →
    word ≡ word_of (decimal front) → count ≡ length (decimal front) → count ≤ 7 → block ≡ word + behind * 2 ^ (8 * count) % 2 ^ 128 →
    IsBlockOf (decimal front ++ text) (count + more) block
longer_block front text more count word behind block low is long few fits first counts short all =
    let xs : List ℕ = decimal front in record {
      is = record {
        short = omega (arith, length-append xs text, long, few, counts, short);
        bytes = each-append xs text (decimal_below front (omega arith)) is.bytes;
        makes = all ∙ (λ i. first i + moved behind count fits (omega arith) i) ∙ (λ i. word_of xs + 256 ^ counts i * is.makes i) ∙ sym (number-append xs text);
      };
      long = length-append xs text ∙ omega (arith, long, counts);
    }
