-- Texts that spell truth values, dates, times and stamps have none but plain bytes, and no space at their ends.
use Rattle.std.proofs.Common.{◌≡◌, ℕ, ◌<◌, Bool, cond, true, false, ◌&&◌, refl, sym, ap, ◌∙◌, subst, arith, List, [], ◌∷◌, ◌++◌, length, map, take, drop, length-take, length-drop, Option, Some, None, ℤ, pos, ◌+ℤ◌, ◌*ℤ◌}
use Rattle.std.specs.Prelude.{◌||◌, ◌==◌, reverse, codes, if◌then◌else◌, nat_le, slice_range, option_and_then}
use Rattle.std.specs.Option.{option_map}
use Rattle.std.specs.List.{list_all}
use Rattle.std.specs.Char.{is_ascii_alphabetic, is_ascii_digit, is_ascii_lowercase, to_ascii_lowercase}
use Rattle.std.specs.Str.{all_ascii_digits, str_eq_ignore_ascii_case}
use Rattle.std.proofs.lemmas.Bool.{and_from, and_parts, eqb-true, or_left, true≢false}
use Rattle.std.proofs.lemmas.List.{length-reverse, reverse-append, take-append-drop}
use Rattle.std.proofs.lemmas.List.Folds.{list_all-append}
use Rattle.std.proofs.lemmas.Option.{cond_some, none-some}
use Rattle.std.proofs.lemmas.Slice.Eq.{bytes_eq-Decides}
use Rattle.value_types.specs.Calendar.{is_date, day_number}
use Rattle.value_types.specs.Cast.{boolean_of, date_of, fraction_micros, is_fraction, stamp_of, time_behind_date, time_of, trimmed}
use Rattle.value_types.specs.ClockTime.{day_micros, is_time, micros_of}
use Rattle.value_types.specs.Digits.{decimal_value, follows_picture, is_numeral}
use Rattle.value_types.specs.Plain.{is_clock_byte, is_stamp_byte}
use Rattle.value_types.proofs.Trimmed.{IsBare, IsBare-cons, trimmed-bare}

-- ---- texts of bytes that are no space

module _ (p : ℕ → Bool) where
  all_reversed : (xs : List ℕ) → list_all p xs ≡ true → list_all p (reverse xs) ≡ true
  all_reversed [] all = refl
  all_reversed (x ∷ xs) all =
      let parts = and_parts _ _ all in
      ap (list_all p) (reverse-append (x ∷ []) xs)
      ∙ list_all-append p (reverse xs) (x ∷ [])
      ∙ and_from _ _ (all_reversed xs parts.1) (and_from _ _ parts.0 refl)

  all_weaker : (q : ℕ → Bool) → ((b : ℕ) → p b ≡ true → q b ≡ true) → (xs : List ℕ) → list_all p xs ≡ true → list_all q xs ≡ true
  all_weaker q more [] all = refl
  all_weaker q more (x ∷ xs) all = let parts = and_parts _ _ all in and_from _ _ (more x parts.0) (all_weaker q more xs parts.1)

  module _ (no_space : p 32 ≡ false) where
    -- some such bytes at the front
    bare_front : (xs rest : List ℕ) → 0 < length xs → list_all p xs ≡ true → IsBare (xs ++ rest)
    bare_front [] rest some all = absurd (let no : ⊥ = omega (arith, some) in no)
    bare_front (x ∷ xs) rest some all = IsBare-cons x (xs ++ rest) (λ e. true≢false (sym (and_parts _ _ all).0 ∙ ap p e ∙ no_space))

    bare_all : (xs : List ℕ) → list_all p xs ≡ true → IsBare xs
    bare_all [] all = refl
    bare_all (x ∷ xs) all = IsBare-cons x xs (λ e. true≢false (sym (and_parts _ _ all).0 ∙ ap p e ∙ no_space))

    trimmed-all : (xs : List ℕ) → list_all p xs ≡ true → trimmed xs ≡ xs
    trimmed-all xs all = trimmed-bare xs (bare_all xs all) (bare_all (reverse xs) (all_reversed xs all))

  -- a picture of such bytes
  followed : ((b : ℕ) → is_ascii_digit b ≡ true → p b ≡ true) → (picture text : List ℕ) → list_all (λ c. (c == 35) || p c) picture ≡ true → follows_picture picture text ≡ true → list_all p text ≡ true
  followed digit [] [] all is = refl
  followed digit [] (t ∷ text) all is = absurd (true≢false (sym is))
  followed digit (c ∷ picture) [] all is = absurd (true≢false (sym is))
  followed digit (c ∷ picture) (t ∷ text) all is =
      let parts = and_parts (if c == 35 then is_ascii_digit t else c == t) (follows_picture picture text) is in
      let each = and_parts ((c == 35) || p c) (list_all (λ k. (k == 35) || p k) picture) all in
      and_from _ _ (by_test (c == 35) each.0 parts.0) (followed digit picture text each.1 parts.1) where
        by_test : (test : Bool) → (test || p c) ≡ true → (if test then is_ascii_digit t else c == t) ≡ true → p t ≡ true
        by_test true allowed same = digit t same
        by_test false allowed same = ap p (sym (eqb-true c t same)) ∙ allowed

-- ---- truth values

letter_lowered : (b : ℕ) → is_ascii_lowercase (to_ascii_lowercase b) ≡ true → is_ascii_alphabetic b ≡ true
letter_lowered b is = grind (arith, is)

letters_lowered : (text : List ℕ) → list_all is_ascii_lowercase (map to_ascii_lowercase text) ≡ true → list_all is_ascii_alphabetic text ≡ true
letters_lowered [] all = refl
letters_lowered (b ∷ text) all = let parts = and_parts _ _ all in and_from _ _ (letter_lowered b parts.0) (letters_lowered text parts.1)

letters_of : (text word : List ℕ) → list_all is_ascii_lowercase (map to_ascii_lowercase word) ≡ true → str_eq_ignore_ascii_case text word ≡ true → list_all is_ascii_alphabetic text ≡ true
letters_of text word all same =
    let is : map to_ascii_lowercase text ≡ map to_ascii_lowercase word = (bytes_eq-Decides (map to_ascii_lowercase text) (map to_ascii_lowercase word)).0 same in
    letters_lowered text (ap (list_all is_ascii_lowercase) is ∙ all)

pub letters-boolean : (text : List ℕ) (truth : Bool) → boolean_of text ≡ Some truth → list_all is_ascii_alphabetic text ≡ true
letters-boolean text truth is = by_test (str_eq_ignore_ascii_case text (codes "true")) refl where
  by_test : (t : Bool) → str_eq_ignore_ascii_case text (codes "true") ≡ t → list_all is_ascii_alphabetic text ≡ true
  by_test true same = letters_of text (codes "true") refl same
  by_test false other =
      let rest : cond (str_eq_ignore_ascii_case text (codes "false")) (Some false) None ≡ Some truth =
      sym (ap (λ t. cond t (Some true) (cond (str_eq_ignore_ascii_case text (codes "false")) (Some false) None)) other) ∙ is in
      letters_of text (codes "false") refl (cond_some (str_eq_ignore_ascii_case text (codes "false")) false truth rest).0

pub trimmed-letters : (text : List ℕ) → list_all is_ascii_alphabetic text ≡ true → trimmed text ≡ text
trimmed-letters text all = trimmed-all is_ascii_alphabetic refl text all

-- ---- dates

pub numerals-date : (text : List ℕ) (day : ℤ) → date_of text ≡ Some day → list_all is_numeral text ≡ true
numerals-date text day is =
    let y = decimal_value (slice_range text 0 4) in
    let m = decimal_value (slice_range text 5 7) in
    let d = decimal_value (slice_range text 8 10) in
    let tests = (cond_some (follows_picture (codes "####-##-##") text && is_date y m d) (day_number y m d) day is).0 in
    followed is_numeral (λ b digit. or_left (is_ascii_digit b) (b == 45) digit) (codes "####-##-##") text refl (and_parts _ _ tests).0

pub trimmed-numerals : (text : List ℕ) → list_all is_numeral text ≡ true → trimmed text ≡ text
trimmed-numerals text all = trimmed-all is_numeral refl text all

-- ---- times

digit_of_clock : (b : ℕ) → is_ascii_digit b ≡ true → is_clock_byte b ≡ true
digit_of_clock b digit = or_left (is_ascii_digit b || (b == 58)) (b == 46) (or_left (is_ascii_digit b) (b == 58) digit)

digits_of_clock : (ds : List ℕ) → all_ascii_digits ds ≡ true → list_all is_clock_byte ds ≡ true
digits_of_clock [] all = refl
digits_of_clock (d ∷ ds) all = let parts = and_parts _ _ all in and_from _ _ (digit_of_clock d parts.0) (digits_of_clock ds parts.1)

clock_fraction : (text : List ℕ) → is_fraction text ≡ true → list_all is_clock_byte text ≡ true
clock_fraction [] is = refl
clock_fraction (point ∷ digits) is =
    let whole = and_parts (((point == 46) && nat_le 1 (length digits)) && nat_le (length digits) 6) (all_ascii_digits digits) is in
    let few = and_parts ((point == 46) && nat_le 1 (length digits)) (nat_le (length digits) 6) whole.0 in
    let first = and_parts (point == 46) (nat_le 1 (length digits)) few.0 in
    and_from _ _ (ap is_clock_byte (eqb-true point 46 first.0)) (digits_of_clock digits whole.1)

pub clock-time : (text : List ℕ) (time : ℤ) → time_of text ≡ Some time → list_all is_clock_byte text ≡ true
clock-time text time is =
    let h = decimal_value (slice_range text 0 2) in
    let m = decimal_value (slice_range text 3 5) in
    let s = decimal_value (slice_range text 6 8) in
    let tests = (cond_some ((follows_picture (codes "##:##:##") (take 8 text) && is_time h m s) && is_fraction (drop 8 text)) (pos (micros_of h m s (fraction_micros (drop 8 text)))) time is).0 in
    let behind = and_parts (follows_picture (codes "##:##:##") (take 8 text) && is_time h m s) (is_fraction (drop 8 text)) tests in
    let picture = and_parts (follows_picture (codes "##:##:##") (take 8 text)) (is_time h m s) behind.0 in
    ap (list_all is_clock_byte) (sym (take-append-drop 8 text))
    ∙ list_all-append is_clock_byte (take 8 text) (drop 8 text)
    ∙ and_from _ _ (followed is_clock_byte digit_of_clock (codes "##:##:##") (take 8 text) refl picture.0) (clock_fraction (drop 8 text) behind.1)

pub trimmed-clock : (text : List ℕ) → list_all is_clock_byte text ≡ true → trimmed text ≡ text
trimmed-clock text all = trimmed-all is_clock_byte refl text all

-- ---- stamps

numeral_of_stamp : (b : ℕ) → is_numeral b ≡ true → is_stamp_byte b ≡ true
numeral_of_stamp b is = by_test (is_ascii_digit b) (b == 58) (b == 46) (b == 45) (b == 32) (b == 84) is where
  by_test : (digit colon point minus space t : Bool) → (digit || minus) ≡ true → (((((digit || colon) || point) || minus) || space) || t) ≡ true
  by_test true colon point minus space t one = refl
  by_test false true point minus space t one = refl
  by_test false false true minus space t one = refl
  by_test false false false true space t one = refl
  by_test false false false false space t one = absurd (true≢false (sym one))

clock_of_stamp : (b : ℕ) → is_clock_byte b ≡ true → is_stamp_byte b ≡ true
clock_of_stamp b is =
    or_left ((is_clock_byte b || (b == 45)) || (b == 32)) (b == 84) (or_left (is_clock_byte b || (b == 45)) (b == 32) (or_left (is_clock_byte b) (b == 45) is))

between_of_stamp : (b : ℕ) → ((b == 32) || (b == 84)) ≡ true → is_stamp_byte b ≡ true
between_of_stamp b is = by_test (is_clock_byte b || (b == 45)) (b == 32) (b == 84) is where
  by_test : (other space t : Bool) → (space || t) ≡ true → ((other || space) || t) ≡ true
  by_test true space t one = refl
  by_test false true t one = refl
  by_test false false true one = refl
  by_test false false false one = absurd (true≢false (sym one))

abbrev added : ℤ → ℤ → ℤ
added day time = (day *ℤ pos day_micros) +ℤ time

-- a date, a byte between, and a time
stamp_joined : (date behind : List ℕ) (day time : ℤ) → 0 < length date → 0 < length behind → date_of date ≡ Some day → time_behind_date behind ≡ Some time →
    (list_all is_stamp_byte (date ++ behind) ≡ true) × (trimmed (date ++ behind) ≡ date ++ behind)
stamp_joined date [] day time some more first second = absurd (let no : ⊥ = omega (arith, more) in no)
stamp_joined date (b ∷ text) day time some more first second = by_test ((b == 32) || (b == 84)) refl where
  by_test : (t : Bool) → ((b == 32) || (b == 84)) ≡ t → (list_all is_stamp_byte (date ++ b ∷ text) ≡ true) × (trimmed (date ++ b ∷ text) ≡ date ++ b ∷ text)
  by_test false other = absurd (none-some time (sym (ap (λ t. cond t (time_of text) None) other) ∙ second))
  by_test true between =
      let is : time_of text ≡ Some time = sym (ap (λ t. cond t (time_of text) None) between) ∙ second in
      let numerals = numerals-date date day first in
      let clock = clock-time text time is in
      let long : 0 < length text = by_length text is in
      let back : reverse (date ++ b ∷ text) ≡ reverse text ++ reverse (date ++ b ∷ []) = ap reverse (sym (append_one date)) ∙ reverse-append (date ++ b ∷ []) text in (
        list_all-append is_stamp_byte date (b ∷ text)
            ∙ and_from _ _ (all_weaker is_numeral is_stamp_byte numeral_of_stamp date numerals) (and_from _ _ (between_of_stamp b between) (all_weaker is_clock_byte is_stamp_byte clock_of_stamp text clock)),
        trimmed-bare (date ++ b ∷ text) (bare_front is_numeral refl date (b ∷ text) some numerals)
            (subst IsBare (sym back) (bare_front is_clock_byte refl (reverse text) (reverse (date ++ b ∷ [])) (omega (arith, long, length-reverse text)) (all_reversed is_clock_byte text clock))),
      ) where
        by_length : (text : List ℕ) → time_of text ≡ Some time → 0 < length text
        by_length [] is = absurd (none-some time is)
        by_length (x ∷ xs) is = omega arith

        append_one : (xs : List ℕ) → (xs ++ b ∷ []) ++ text ≡ xs ++ b ∷ text
        append_one [] = refl
        append_one (x ∷ xs) = ap (λ ys. x ∷ ys) (append_one xs)

-- a stamp with a time behind its date
pub plain-stamp : (text : List ℕ) (stamp : ℤ) → 10 < length text → stamp_of text ≡ Some stamp → (list_all is_stamp_byte text ≡ true) × (trimmed text ≡ text)
plain-stamp text stamp long is = by_date (date_of (take 10 text)) refl where
  whole : take 10 text ++ drop 10 text ≡ text
  whole = take-append-drop 10 text

  by_time : (day : ℤ) (o : Option ℤ) → date_of (take 10 text) ≡ Some day → time_behind_date (drop 10 text) ≡ o → (list_all is_stamp_byte text ≡ true) × (trimmed text ≡ text)
  by_time day None first second = absurd (none-some stamp (sym (λ i. option_and_then (λ n. option_map (λ z. added n z) (second i)) (first i)) ∙ is))
  by_time day (Some time) first second =
      subst (λ t. (list_all is_stamp_byte t ≡ true) × (trimmed t ≡ t)) whole
      (stamp_joined (take 10 text) (drop 10 text) day time (omega (arith, long, length-take 10 text)) (omega (arith, long, length-drop 10 text)) first second)

  by_date : (o : Option ℤ) → date_of (take 10 text) ≡ o → (list_all is_stamp_byte text ≡ true) × (trimmed text ≡ text)
  by_date None first = absurd (none-some stamp (sym (ap (option_and_then (λ n. option_map (λ z. added n z) (time_behind_date (drop 10 text)))) first) ∙ is))
  by_date (Some day) first = by_time day (time_behind_date (drop 10 text)) first refl

-- ---- what is found at a front

pub cast_letters : (text : List ℕ) (truth : Bool) → Some truth ≡ boolean_of text → (boolean_of (trimmed text) ≡ Some truth) × (list_all is_ascii_alphabetic text ≡ true)
cast_letters text truth found = let all = letters-boolean text truth (sym found) in (ap boolean_of (trimmed-letters text all) ∙ sym found, all)

pub cast_numerals : (text : List ℕ) (day : ℤ) → Some day ≡ date_of text → (date_of (trimmed text) ≡ Some day) × (list_all is_numeral text ≡ true)
cast_numerals text day found = let all = numerals-date text day (sym found) in (ap date_of (trimmed-numerals text all) ∙ sym found, all)

pub cast_clock : (text : List ℕ) (time : ℤ) → Some time ≡ time_of text → (time_of (trimmed text) ≡ Some time) × (list_all is_clock_byte text ≡ true)
cast_clock text time found = let all = clock-time text time (sym found) in (ap time_of (trimmed-clock text all) ∙ sym found, all)

pub cast_stamp : (text : List ℕ) (stamp : ℤ) → 10 < length text → Some stamp ≡ stamp_of text → (stamp_of (trimmed text) ≡ Some stamp) × (list_all is_stamp_byte text ≡ true)
cast_stamp text stamp long found = let plain = plain-stamp text stamp long (sym found) in (ap stamp_of plain.1 ∙ sym found, plain.0)
