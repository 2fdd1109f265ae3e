-- What dates and times spell whose first eight bytes are read by pairs of digits.
use Rattle.std.proofs.Common.{◌≡◌, ℕ, ◌+◌, ◌-◌, ◌*◌, ◌/◌, ◌^◌, ◌<◌, ◌≤◌, Bool, true, false, ◌&&◌, cond, bit_and, refl, sym, ap, ◌∙◌, arith, List, [], ◌∷◌, length, get_or, take, drop, Option, Some, None, codes, eqb-true, ltb-true, pos}
use Rattle.std.specs.Prelude.{if◌then◌else◌, ◌==◌, slice_range}
use Rattle.std.specs.Char.{is_ascii_digit}
use Rattle.std.proofs.lemmas.Bool.{and_parts, and_right, true≢false}
use Rattle.std.proofs.lemmas.Option.{cond_some, none-some}
use Rattle.value_types.specs.Digits.{decimal_value, natural_of, follows_picture}
use Rattle.value_types.specs.Calendar.{is_date, day_number}
use Rattle.value_types.specs.ClockTime.{is_time, micros_of}
use Rattle.value_types.specs.Cast.{date_of, fraction_micros, is_fraction, time_of}
use Rattle.value_types.specs.Reading.{time_shown}
use Rattle.value_types.specs.Words.{IsPicture, pairs_of, word_of, worth, worths_by}
use Rattle.value_types.proofs.CastSteps.{date_by_pairs, no_date, time_by_pairs}
use Rattle.value_types.proofs.WordPairs.{byte_0, byte_2, byte_3, byte_5, byte_6}
use Rattle.value_types.proofs.WordTexts.{worth_digit, worth_is}

abbrev date_front : List ℕ
date_front = codes "####-##-"

abbrev clock : List ℕ
clock = codes "##:##:##"

pub date_picture : IsPicture (codes "####-##-") 0x2D30302D30303030 0x0F06060F06060606
date_picture = record {
  is_word = (refl, (omega arith, (omega arith, (omega arith, (omega arith, (omega arith, (omega arith, (omega arith, (omega arith, tt)))))))));
  has_naughts = refl;
  has_carries = refl;
}

pub clock_picture : IsPicture (codes "##:##:##") 0x30303A30303A3030 0x06060F06060F0606
clock_picture = record {
  is_word = (refl, (omega arith, (omega arith, (omega arith, (omega arith, (omega arith, (omega arith, (omega arith, (omega arith, tt)))))))));
  has_naughts = refl;
  has_carries = refl;
}

-- what is read of eight bytes by a picture
abbrev pub read_by : List ℕ → List ℕ → Option ℕ
read_by picture text = if follows_picture picture text then Some (word_of (pairs_of (worths_by picture text))) else None

digit_small : (b : ℕ) → b < 256 → is_ascii_digit b ≡ true → worth b < 10
digit_small b B digit = ltb-true (worth b) 10 (worth_digit b B ∙ digit)

-- what two digits spell
two_of : (a b n : ℕ) → a < 256 → b < 256 → is_ascii_digit a ≡ true → is_ascii_digit b ≡ true → n ≡ worth a * 10 + worth b → Some n ≡ natural_of (a ∷ b ∷ [])
two_of a b n A B da db is =
    let first = worth_is a A da in
    let second = worth_is b B db in
    let same : n ≡ (a - 48) * 10 ^ 1 + ((b - 48) * 10 ^ 0 + 0) = omega (arith, is, first, second) in
    ap Some same ∙ sym (λ i. if da i && (db i && true) then Some ((a - 48) * 10 ^ 1 + ((b - 48) * 10 ^ 0 + 0)) else None)

cond_none : (t : Bool) (n : ℕ) → cond t (Some n) None ≡ None → t ≡ false
cond_none true n is = absurd (none-some n (sym is))
cond_none false n is = refl

-- ---- dates

abbrev year_in : ℕ → ℕ
year_in pairs = bit_and pairs 255 * 100 + bit_and (pairs / 65536) 255

abbrev month_in : ℕ → ℕ
month_in pairs = bit_and (pairs / 1099511627776) 255

-- the numbers of a date, and what they make
pub record DateRead (text : List ℕ) (pairs day : ℕ) : Type 0 where
  pub year : year_in pairs < 10000
  pub month : month_in pairs < 100
  pub value : (if is_date (year_in pairs) (month_in pairs) day then Some (day_number (year_in pairs) (month_in pairs) day) else None) ≡ date_of text

pub date_by_word : (text : List ℕ) (pairs day : ℕ) → length text ≡ 10 → ((k : ℕ) → k < length text → get_or text k 0 < 256) →
    Some pairs ≡ read_by (codes "####-##-") (slice_range text 0 8) → Some day ≡ natural_of (slice_range text 8 10) → DateRead text pairs day
date_by_word (c ∷ d ∷ y ∷ z ∷ s ∷ m ∷ n ∷ t ∷ e ∷ f ∷ []) pairs day ten fits read ed =
    let front : List ℕ = c ∷ d ∷ y ∷ z ∷ s ∷ m ∷ n ∷ t ∷ [] in
    let found = cond_some (follows_picture date_front front) (word_of (pairs_of (worths_by date_front front))) pairs (sym read) in
    let p0 = and_parts (is_ascii_digit c) _ found.0 in
    let p1 = and_parts (is_ascii_digit d) _ p0.1 in
    let p2 = and_parts (is_ascii_digit y) _ p1.1 in
    let p3 = and_parts (is_ascii_digit z) _ p2.1 in
    let p4 = and_parts (45 == s) _ p3.1 in
    let p5 = and_parts (is_ascii_digit m) _ p4.1 in
    let p6 = and_parts (is_ascii_digit n) _ p5.1 in
    let p7 = and_parts (45 == t) true p6.1 in
    let first : s ≡ 45 = sym (eqb-true 45 s p4.0) in
    let last : t ≡ 45 = sym (eqb-true 45 t p7.0) in
    let C : c < 256 = fits 0 (omega arith) in
    let D : d < 256 = fits 1 (omega arith) in
    let Y : y < 256 = fits 2 (omega arith) in
    let Z : z < 256 = fits 3 (omega arith) in
    let M : m < 256 = fits 5 (omega arith) in
    let N : n < 256 = fits 6 (omega arith) in
    let lc = digit_small c C p0.0 in
    let ld = digit_small d D p1.0 in
    let ly = digit_small y Y p2.0 in
    let lz = digit_small z Z p3.0 in
    let lm = digit_small m M p5.0 in
    let ln = digit_small n N p6.0 in
    let w : pairs ≡ word_of ((worth c * 10 + worth d) ∷ (worth d * 10 + worth y) ∷ (worth y * 10 + worth z) ∷ (worth z * 10 + 0) ∷ (0 * 10 + worth m) ∷ (worth m * 10 + worth n) ∷ (worth n * 10 + 0) ∷ 0 * 10 ∷ []) =
    sym found.1 ∙ (λ i. word_of (pairs_of (worths_by date_front (c ∷ d ∷ y ∷ z ∷ first i ∷ m ∷ n ∷ last i ∷ [])))) in
    let b0 : bit_and pairs 255 ≡ worth c * 10 + worth d =
    ap (λ k. bit_and k 255) w ∙ byte_0 (worth c * 10 + worth d) (worth d * 10 + worth y) (worth y * 10 + worth z) (worth z * 10 + 0) (0 * 10 + worth m) (worth m * 10 + worth n) (worth n * 10 + 0) (0 * 10) (omega arith) (omega arith) (omega arith) (omega arith) (omega arith) (omega arith) (omega arith) (omega arith) in
    let b2 : bit_and (pairs / 65536) 255 ≡ worth y * 10 + worth z =
    ap (λ k. bit_and (k / 65536) 255) w ∙ byte_2 (worth c * 10 + worth d) (worth d * 10 + worth y) (worth y * 10 + worth z) (worth z * 10 + 0) (0 * 10 + worth m) (worth m * 10 + worth n) (worth n * 10 + 0) (0 * 10) (omega arith) (omega arith) (omega arith) (omega arith) (omega arith) (omega arith) (omega arith) (omega arith) in
    let b5 : bit_and (pairs / 1099511627776) 255 ≡ worth m * 10 + worth n =
    ap (λ k. bit_and (k / 1099511627776) 255) w ∙ byte_5 (worth c * 10 + worth d) (worth d * 10 + worth y) (worth y * 10 + worth z) (worth z * 10 + 0) (0 * 10 + worth m) (worth m * 10 + worth n) (worth n * 10 + 0) (0 * 10) (omega arith) (omega arith) (omega arith) (omega arith) (omega arith) (omega arith) (omega arith) (omega arith) in
    record {
      year = omega (arith, b0, b2, lc, ld, ly, lz);
      month = omega (arith, b5, lm, ln);
      value = date_by_pairs (c ∷ d ∷ y ∷ z ∷ s ∷ m ∷ n ∷ t ∷ e ∷ f ∷ []) (bit_and pairs 255) (bit_and (pairs / 65536) 255) (bit_and (pairs / 1099511627776) 255) day ten first last
          (two_of c d (bit_and pairs 255) C D p0.0 p1.0 b0) (two_of y z (bit_and (pairs / 65536) 255) Y Z p2.0 p3.0 b2) (two_of m n (bit_and (pairs / 1099511627776) 255) M N p5.0 p6.0 b5) ed;
    }
date_by_word text pairs day ten fits read ed = absurd (let no : ⊥ = omega (arith, ten) in no)

longer : (a b c d e f g h x : Bool) → (a && (b && (c && (d && (e && (f && (g && (h && true)))))))) ≡ false → (a && (b && (c && (d && (e && (f && (g && (h && x)))))))) ≡ false
longer false b c d e f g h x out = refl
longer true false c d e f g h x out = refl
longer true true false d e f g h x out = refl
longer true true true false e f g h x out = refl
longer true true true true false f g h x out = refl
longer true true true true true false g h x out = refl
longer true true true true true true false h x out = refl
longer true true true true true true true false x out = refl
longer true true true true true true true true x out = absurd (true≢false out)

pub no_date_by_word : (text : List ℕ) → length text ≡ 10 → None ≡ read_by (codes "####-##-") (slice_range text 0 8) → None ≡ date_of text
no_date_by_word (c ∷ d ∷ y ∷ z ∷ s ∷ m ∷ n ∷ t ∷ e ∷ f ∷ []) ten read =
    no_date (c ∷ d ∷ y ∷ z ∷ s ∷ m ∷ n ∷ t ∷ e ∷ f ∷ [])
    (longer (is_ascii_digit c) (is_ascii_digit d) (is_ascii_digit y) (is_ascii_digit z) (45 == s) (is_ascii_digit m) (is_ascii_digit n) (45 == t) (is_ascii_digit e && (is_ascii_digit f && true))
    (cond_none (follows_picture date_front (c ∷ d ∷ y ∷ z ∷ s ∷ m ∷ n ∷ t ∷ [])) _ (sym read)))
no_date_by_word text ten read = absurd (let no : ⊥ = omega (arith, ten) in no)

pub no_day : (text : List ℕ) → length text ≡ 10 → None ≡ natural_of (slice_range text 8 10) → None ≡ date_of text
no_day (c ∷ d ∷ y ∷ z ∷ s ∷ m ∷ n ∷ t ∷ e ∷ f ∷ []) ten none =
    let end : (is_ascii_digit e && (is_ascii_digit f && true)) ≡ false = cond_none (is_ascii_digit e && (is_ascii_digit f && true)) _ (sym none) in
    no_date (c ∷ d ∷ y ∷ z ∷ s ∷ m ∷ n ∷ t ∷ e ∷ f ∷ []) (behind (is_ascii_digit c) (is_ascii_digit d) (is_ascii_digit y) (is_ascii_digit z) (45 == s) (is_ascii_digit m) (is_ascii_digit n) (45 == t) (is_ascii_digit e && (is_ascii_digit f && true)) end) where
      behind : (a b c d e f g h x : Bool) → x ≡ false → (a && (b && (c && (d && (e && (f && (g && (h && x)))))))) ≡ false
      behind a b c d e f g h x out = and_right a _ (and_right b _ (and_right c _ (and_right d _ (and_right e _ (and_right f _ (and_right g _ (and_right h x out)))))))
no_day text ten none = absurd (let no : ⊥ = omega (arith, ten) in no)

-- ---- times

abbrev hour_in : ℕ → ℕ
hour_in pairs = bit_and pairs 255

abbrev minute_in : ℕ → ℕ
minute_in pairs = bit_and (pairs / 16777216) 255

abbrev second_in : ℕ → ℕ
second_in pairs = bit_and (pairs / 281474976710656) 255

pub time_by_word : (text : List ℕ) (pairs : ℕ) → 8 ≤ length text → ((k : ℕ) → k < length text → get_or text k 0 < 256) →
    Some pairs ≡ read_by (codes "##:##:##") (slice_range text 0 8) → time_shown (hour_in pairs) (minute_in pairs) (second_in pairs) (drop 8 text) ≡ time_of text
time_by_word (h ∷ h' ∷ a ∷ m ∷ m' ∷ b ∷ s ∷ s' ∷ behind) pairs eight fits read =
    let front : List ℕ = h ∷ h' ∷ a ∷ m ∷ m' ∷ b ∷ s ∷ s' ∷ [] in
    let found = cond_some (follows_picture clock front) (word_of (pairs_of (worths_by clock front))) pairs (sym read) in
    let p0 = and_parts (is_ascii_digit h) _ found.0 in
    let p1 = and_parts (is_ascii_digit h') _ p0.1 in
    let p2 = and_parts (58 == a) _ p1.1 in
    let p3 = and_parts (is_ascii_digit m) _ p2.1 in
    let p4 = and_parts (is_ascii_digit m') _ p3.1 in
    let p5 = and_parts (58 == b) _ p4.1 in
    let p6 = and_parts (is_ascii_digit s) _ p5.1 in
    let p7 = and_parts (is_ascii_digit s') true p6.1 in
    let first : a ≡ 58 = sym (eqb-true 58 a p2.0) in
    let last : b ≡ 58 = sym (eqb-true 58 b p5.0) in
    let H : h < 256 = fits 0 (omega arith) in
    let H' : h' < 256 = fits 1 (omega arith) in
    let M : m < 256 = fits 3 (omega arith) in
    let M' : m' < 256 = fits 4 (omega arith) in
    let S : s < 256 = fits 6 (omega arith) in
    let S' : s' < 256 = fits 7 (omega arith) in
    let lh = digit_small h H p0.0 in
    let lh' = digit_small h' H' p1.0 in
    let lm = digit_small m M p3.0 in
    let lm' = digit_small m' M' p4.0 in
    let ls = digit_small s S p6.0 in
    let ls' = digit_small s' S' p7.0 in
    let w : pairs ≡ word_of ((worth h * 10 + worth h') ∷ (worth h' * 10 + 0) ∷ (0 * 10 + worth m) ∷ (worth m * 10 + worth m') ∷ (worth m' * 10 + 0) ∷ (0 * 10 + worth s) ∷ (worth s * 10 + worth s') ∷ worth s' * 10 ∷ []) =
    sym found.1 ∙ (λ i. word_of (pairs_of (worths_by clock (h ∷ h' ∷ first i ∷ m ∷ m' ∷ last i ∷ s ∷ s' ∷ [])))) in
    let b0 : hour_in pairs ≡ worth h * 10 + worth h' =
    ap hour_in w ∙ byte_0 (worth h * 10 + worth h') (worth h' * 10 + 0) (0 * 10 + worth m) (worth m * 10 + worth m') (worth m' * 10 + 0) (0 * 10 + worth s) (worth s * 10 + worth s') (worth s' * 10) (omega arith) (omega arith) (omega arith) (omega arith) (omega arith) (omega arith) (omega arith) (omega arith) in
    let b3 : minute_in pairs ≡ worth m * 10 + worth m' =
    ap minute_in w ∙ byte_3 (worth h * 10 + worth h') (worth h' * 10 + 0) (0 * 10 + worth m) (worth m * 10 + worth m') (worth m' * 10 + 0) (0 * 10 + worth s) (worth s * 10 + worth s') (worth s' * 10) (omega arith) (omega arith) (omega arith) (omega arith) (omega arith) (omega arith) (omega arith) (omega arith) in
    let b6 : second_in pairs ≡ worth s * 10 + worth s' =
    ap second_in w ∙ byte_6 (worth h * 10 + worth h') (worth h' * 10 + 0) (0 * 10 + worth m) (worth m * 10 + worth m') (worth m' * 10 + 0) (0 * 10 + worth s) (worth s * 10 + worth s') (worth s' * 10) (omega arith) (omega arith) (omega arith) (omega arith) (omega arith) (omega arith) (omega arith) (omega arith) in
    time_by_pairs (h ∷ h' ∷ a ∷ m ∷ m' ∷ b ∷ s ∷ s' ∷ behind) (hour_in pairs) (minute_in pairs) (second_in pairs) eight first last
    (two_of h h' (hour_in pairs) H H' p0.0 p1.0 b0) (two_of m m' (minute_in pairs) M M' p3.0 p4.0 b3) (two_of s s' (second_in pairs) S S' p6.0 p7.0 b6)
time_by_word text pairs eight fits read = absurd (let no : ⊥ = omega (arith, eight) in no)

pub no_time_by_word : (text : List ℕ) → None ≡ read_by (codes "##:##:##") (slice_range text 0 8) → None ≡ time_of text
no_time_by_word text read =
    let h = decimal_value (slice_range text 0 2) in
    let m = decimal_value (slice_range text 3 5) in
    let s = decimal_value (slice_range text 6 8) in
    sym (ap (λ t. if t && is_time h m s && is_fraction (drop 8 text) then Some (pos (micros_of h m s (fraction_micros (drop 8 text)))) else None)
    (cond_none (follows_picture clock (take 8 text)) _ (sym read)))
