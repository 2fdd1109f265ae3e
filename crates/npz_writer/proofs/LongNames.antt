-- The first name that is too long, and the length of keys.
use Rattle.std.proofs.Common.{◌≡◌, ℕ, zero, suc, ◌+◌, ◌-◌, ◌*◌, ◌^◌, ◌<◌, ◌≤◌, Bool, true, false, cond, not, List, [], ◌∷◌, ◌++◌, length, map, drop, get_or, Option, Some, None, IfSome, sym, ◌∙◌, ap, arith, subst, refl, codes, length-append, inl, inr, All}
use Rattle.std.specs.Prelude.{nat_lt, unwrap_or}
use Rattle.std.specs.Fmt.{decimal}
use Rattle.std.specs.List.{find, position_from, range_with_len}
use Rattle.std.proofs.lemmas.Fmt.{length-decimal-le}
use Rattle.std.proofs.lemmas.Bool.Decides.{nat_tests}
use Rattle.std.proofs.lemmas.Bool.{cond_both}
use Rattle.std.proofs.lemmas.List.{drop_all}
use Rattle.std.proofs.lemmas.List.Elements.{All-cons, All-head, All-nil, All-tail}
use Rattle.csv_sniffer.specs.ColumnNames.{first_free, with_number}
use Rattle.db_writer.specs.Naming.{is_same_name, names_apart}
use Rattle.npz_writer.specs.Keys.{column_keys, key_text}
use Rattle.npz_writer.specs.LongKeys.{is_long}

-- ---- the first long name

module _ (names : List (List ℕ)) (k : ℕ) (name : List ℕ) (whole : Option ℕ) (here : drop k names ≡ name ∷ drop (k + 1) names) (before : position_from is_long k (drop k names) ≡ whole) where
  at_name : cond (is_long name) (Some k) (position_from is_long (k + 1) (drop (k + 1) names)) ≡ whole
  at_name = sym (ap (position_from is_long k) here) ∙ before

  pub passed : is_long name ≡ false → position_from is_long (k + 1) (drop (k + 1) names) ≡ whole
  passed short = sym (ap (λ t. cond t (Some k) (position_from is_long (k + 1) (drop (k + 1) names))) short) ∙ at_name

  pub reached : is_long name ≡ true → Some k ≡ whole
  reached long = sym (ap (λ t. cond t (Some k) (position_from is_long (k + 1) (drop (k + 1) names))) long) ∙ at_name

-- ---- keys

-- the text of a name has so many bytes, and a key as many as a suffix makes of them
abbrev pub IsShort : List ℕ → Type 0
IsShort text = length text ≤ 65500

abbrev pub IsShortKey : List ℕ → Type 0
IsShortKey key = length key ≤ 65521

-- a name behind those that aren't too long
one_short : (name : List ℕ) (names : List (List ℕ)) (k : ℕ) → ((k : ℕ) → position_from is_long k names ≡ None → All IsShort (map key_text names)) →
    (long : Bool) → is_long name ≡ long → cond long (Some k) (position_from is_long (k + 1) names) ≡ None → All IsShort (map key_text (name ∷ names))
one_short name names k others true is none = absurd (let no : ⊥ = cc in no)
one_short name names k others false is none =
    let short : length (key_text name) ≤ 65500 = grind (arith, nat_tests, is) in
    All-cons IsShort (key_text name) (map key_text names) short (others (k + 1) none)

pub all_short : (names : List (List ℕ)) (k : ℕ) → position_from is_long k names ≡ None → All IsShort (map key_text names)
all_short [] k none = All-nil IsShort
all_short (name ∷ names) k none = one_short name names k (all_short names) (is_long name) refl none

-- a number behind a name
numbered : (name : List ℕ) (n : ℕ) → IsShort name → n < 2 ^ 64 → IsShortKey (with_number name n)
numbered name n short small =
    let digits : length (decimal n) ≤ 20 = length-decimal-le 20 n (omega arith) (omega (arith, small)) small in
    let long : length (with_number name n) ≡ length (name ++ codes "_") + length (decimal n) = length-append (name ++ codes "_") (decimal n) in
    let front : length (name ++ codes "_") ≡ length name + 1 = length-append name (codes "_") in
    omega (arith, short, digits, long, front)

-- what is found is one of them, or the other
found_short : (test : List ℕ → Bool) (name : List ℕ) (from count : ℕ) → IsShort name → from + count ≤ 2 ^ 64 →
    IsShortKey (unwrap_or (find test (map (with_number name) (range_with_len from count))) name)
found_short test name from zero short fits = omega (arith, short)
found_short test name from (suc count) short fits =
    let one : List ℕ = with_number name from in
    let others : Option (List ℕ) = find test (map (with_number name) (range_with_len (from + 1) count)) in
    cond_both (test one) (Some one) others (λ o. IsShortKey (unwrap_or o name)) (λ e. numbered name from short (omega (arith, fits)))
    (λ e. found_short test name (from + 1) count short (omega (arith, fits)))

free_short : (is_taken : List ℕ → Bool) (count : ℕ) (name : List ℕ) → IsShort name → count < 2 ^ 64 → IsShortKey (first_free is_taken count name)
free_short is_taken count name short few =
    cond_both (is_taken name) (unwrap_or (find (λ other. not (is_taken other)) (map (with_number name) (range_with_len 1 count))) name) name IsShortKey
    (λ e. found_short (λ other. not (is_taken other)) name 1 count short (omega (arith, few))) (λ e. omega (arith, short))

pub apart_short : (earlier names : List (List ℕ)) → length earlier + length names < 2 ^ 64 → All IsShort names → All IsShortKey (names_apart earlier names)
apart_short earlier [] few short = All-nil IsShortKey
apart_short earlier (name ∷ names) few short =
    let free : List ℕ = first_free (is_same_name earlier) (length earlier) name in
    All-cons IsShortKey free (names_apart (free ∷ earlier) names) (free_short (is_same_name earlier) (length earlier) name (All-head IsShort name names short) (omega (arith, few)))
    (apart_short (free ∷ earlier) names (omega (arith, few)) (All-tail IsShort name names short))

length-apart : (earlier names : List (List ℕ)) → length (names_apart earlier names) ≡ length names
length-apart earlier [] = refl
length-apart earlier (name ∷ names) = ap suc (length-apart (first_free (is_same_name earlier) (length earlier) name ∷ earlier) names)

length-texts : (names : List (List ℕ)) → length (map key_text names) ≡ length names
length-texts [] = refl
length-texts (name ∷ names) = ap suc (length-texts names)

pub length-keys : (names : List (List ℕ)) → length (column_keys names) ≡ length names
length-keys names = length-apart [] (map key_text names) ∙ length-texts names

pub keys_short : (names : List (List ℕ)) → position_from is_long 0 names ≡ None → length names < 2 ^ 64 → All IsShortKey (column_keys names)
keys_short names none few =
    let count : length (map key_text names) ≡ length names = length-texts names in
    apart_short [] (map key_text names) (omega (arith, few, count)) (all_short names 0 none)
