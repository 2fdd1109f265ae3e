-- Different values and texts, cell by cell.
use Rattle.std.proofs.Common.{◌≡◌, ◌⊎◌, inl, inr, ℕ, zero, suc, ◌<◌, Bool, true, false, List, [], ◌∷◌, ◌++◌, length, get_or, ◌∙◌, refl, arith, length-append}
use Rattle.std.specs.Prelude.{◌||◌, ◌&&◌, All, if◌then◌else◌}
use Rattle.std.specs.Cmp.{int_eq_equiv, nat_eq_equiv}
use Rattle.std.specs.List.{Contains, list_any}
use Rattle.std.specs.Str.{bytes_eq}
use Rattle.std.proofs.lemmas.List.{get_or_push, get_or_append_left}
use Rattle.std.proofs.lemmas.List.Elements.{All-nil, All-push, All-weaker, Contains-append_left, Contains-push}
use Rattle.std.proofs.lemmas.List.Folds.{list_any-append}
use Rattle.value_types.specs.declared.types.Value.{Value}
use Rattle.value_types.specs.declared.types.Value.TheVariants as values
use Rattle.value_types.specs.Datum.{Datum, null, typed, text}
use Rattle.column_profile.specs.Laws.{AreApart, DifferentAreKeptOnce, IsAmong, IsApartOf}
use Rattle.column_profile.specs.Tally.{Apart, apart_with, nothing_apart, with_one}
use Rattle.column_profile.specs.Values.{number_of, same_value}
use Rattle.column_profile.proofs.EachCell.{holds_of_all}

-- ---- an element that is added, unless it is there

either : (a b : Bool) → (a ≡ true) ⊎ (b ≡ true) → (a || b) ≡ true
either true b is = refl
either false b (inl is) = absurd (let no : ⊥ = cc in no)
either false b (inr is) = is

neither : (a b : Bool) → (a || b) ≡ false → (a ≡ false) × (b ≡ false)
neither true b is = absurd (let no : ⊥ = cc in no)
neither false b is = (refl, is)

none_passes : {A : Type 0} (test : A → Bool) (xs : List A) (k : ℕ) (d : A) → k < length xs → list_any test xs ≡ false → test (get_or xs k d) ≡ false
none_passes test [] k d within none = absurd (let no : ⊥ = omega (arith, within) in no)
none_passes test (x ∷ xs) zero d within none = (neither (test x) (list_any test xs) none).0
none_passes test (x ∷ xs) (suc k) d within none = none_passes test xs k d (omega (arith, within)) (neither (test x) (list_any test xs) none).1

module _ {A : Type 0} (same : A → A → Bool) (xs : List A) (x : A) where
  module _ (test : A → Bool) where
    more_pass : (there : Bool) → list_any test xs ≡ true → list_any test (if there then xs else xs ++ x ∷ []) ≡ true
    more_pass true any = any
    more_pass false any = list_any-append test xs (x ∷ []) ∙ either (list_any test xs) (test x || false) (inl any)

    it_passes : (there : Bool) → list_any test xs ≡ there → test x ≡ true → list_any test (if there then xs else xs ++ x ∷ []) ≡ true
    it_passes true is passes = is
    it_passes false is passes = list_any-append test xs (x ∷ []) ∙ either (list_any test xs) (test x || false) (inr (either (test x) false (inl passes)))

  each_more : (P : A → Type 0) (there : Bool) → All P xs → P x → All P (if there then xs else xs ++ x ∷ [])
  each_more P true all here = all
  each_more P false all here = All-push P xs x all here

  -- the new one differs from all
  apart_behind : list_any (same x) xs ≡ false → AreApart same xs → AreApart same (xs ++ x ∷ [])
  apart_behind none apart i j d below within =
      let long = length-append xs (x ∷ []) in
      let before : i < length xs = omega (arith, below, within, long) in
      let cases : (j < length xs) ⊎ (length xs ≡ j) = grind (arith, within, long) in
      elim cases as (λ _. same (get_or (xs ++ x ∷ []) j d) (get_or (xs ++ x ∷ []) i d) ≡ false) [
        | inl left ↦ (λ k. same (get_or_append_left xs (x ∷ []) d j left k) (get_or_append_left xs (x ∷ []) d i before k)) ∙ apart i j d below left
        | inr last ↦ (λ k. same (get_or_push xs x d j last k) (get_or_append_left xs (x ∷ []) d i before k)) ∙ none_passes (same x) xs i d before none
      ]

  apart_more : (there : Bool) → list_any (same x) xs ≡ there → AreApart same xs → AreApart same (if there then xs else xs ++ x ∷ [])
  apart_more true is apart = apart
  apart_more false is apart = apart_behind is apart

  pub still_passes : (test : A → Bool) → list_any test xs ≡ true → list_any test (with_one same xs x) ≡ true
  still_passes test any = more_pass test (list_any (same x) xs) any

  pub added_passes : same x x ≡ true → list_any (same x) (with_one same xs x) ≡ true
  added_passes itself = it_passes (same x) (list_any (same x) xs) refl itself

  pub each_with : (P : A → Type 0) → All P xs → P x → All P (with_one same xs x)
  each_with P all here = each_more P (list_any (same x) xs) all here

  pub apart_with_one : AreApart same xs → AreApart same (with_one same xs x)
  apart_with_one apart = apart_more (list_any (same x) xs) refl apart

-- ---- what is the same as itself

same_itself : (v : Value) → same_value v v ≡ true
same_itself (values.Bool b) = int_eq_equiv.refl (number_of (values.Bool b))
same_itself (values.Int n) = int_eq_equiv.refl n
same_itself (values.Date day) = int_eq_equiv.refl day
same_itself (values.Time micros) = int_eq_equiv.refl micros
same_itself (values.Stamp stamp) = int_eq_equiv.refl stamp

both : (a b : Bool) → a ≡ true → b ≡ true → (a && b) ≡ true
both true b first second = second
both false b first second = absurd (let no : ⊥ = cc in no)

bytes_itself : (bytes : List ℕ) → bytes_eq bytes bytes ≡ true
bytes_itself [] = refl
bytes_itself (b ∷ bytes) = both _ _ (nat_eq_equiv.refl b) (bytes_itself bytes)

-- ---- one cell more

module _ (before : List Datum) (cell : Datum) where
  values_stay : (vs : List Value) → All (λ v. Contains before (typed v)) vs → All (λ v. Contains (before ++ cell ∷ []) (typed v)) vs
  values_stay vs all = All-weaker (λ v. Contains before (typed v)) (λ v. Contains (before ++ cell ∷ []) (typed v)) (λ v. Contains-append_left before (cell ∷ []) (typed v)) vs all

  texts_stay : (ts : List (List ℕ)) → All (λ t. Contains before (text t)) ts → All (λ t. Contains (before ++ cell ∷ []) (text t)) ts
  texts_stay ts all = All-weaker (λ t. Contains before (text t)) (λ t. Contains (before ++ cell ∷ []) (text t)) (λ t. Contains-append_left before (cell ∷ []) (text t)) ts all

value_kept : (apart : Apart) (value : Value) (cell : Datum) → IsAmong apart cell → IsAmong (apart_with apart (typed value)) cell
value_kept apart value null among = tt
value_kept apart value (typed v) among = still_passes same_value apart.values value (same_value v) among
value_kept apart value (text bytes) among = among

text_kept : (apart : Apart) (bytes : List ℕ) (cell : Datum) → IsAmong apart cell → IsAmong (apart_with apart (text bytes)) cell
text_kept apart bytes null among = tt
text_kept apart bytes (typed v) among = among
text_kept apart bytes (text t) among = still_passes bytes_eq apart.texts bytes (bytes_eq t) among

apart_keeps : (before : List Datum) (apart : Apart) (cell : Datum) → IsApartOf before apart → IsApartOf (before ++ cell ∷ []) (apart_with apart cell)
apart_keeps before apart null is = record {
  whole = All-push (IsAmong apart) before null is.whole tt;
  values_found = values_stay before null apart.values is.values_found;
  texts_found = texts_stay before null apart.texts is.texts_found;
  values_apart = is.values_apart;
  texts_apart = is.texts_apart;
}
apart_keeps before apart (typed value) is = record {
  whole = All-push (IsAmong (apart_with apart (typed value))) before (typed value)
      (All-weaker (IsAmong apart) (IsAmong (apart_with apart (typed value))) (value_kept apart value) before is.whole) (added_passes same_value apart.values value (same_itself value));
  values_found = each_with same_value apart.values value (λ v. Contains (before ++ typed value ∷ []) (typed v)) (values_stay before (typed value) apart.values is.values_found)
      (Contains-push before (typed value));
  texts_found = texts_stay before (typed value) apart.texts is.texts_found;
  values_apart = apart_with_one same_value apart.values value is.values_apart;
  texts_apart = is.texts_apart;
}
apart_keeps before apart (text bytes) is = record {
  whole = All-push (IsAmong (apart_with apart (text bytes))) before (text bytes)
      (All-weaker (IsAmong apart) (IsAmong (apart_with apart (text bytes))) (text_kept apart bytes) before is.whole) (added_passes bytes_eq apart.texts bytes (bytes_itself bytes));
  values_found = values_stay before (text bytes) apart.values is.values_found;
  texts_found = each_with bytes_eq apart.texts bytes (λ t. Contains (before ++ text bytes ∷ []) (text t)) (texts_stay before (text bytes) apart.texts is.texts_found)
      (Contains-push before (text bytes));
  values_apart = is.values_apart;
  texts_apart = apart_with_one bytes_eq apart.texts bytes is.texts_apart;
}

pub different_kept : DifferentAreKeptOnce
different_kept = holds_of_all apart_with IsApartOf apart_keeps nothing_apart (record {
  whole = All-nil (IsAmong nothing_apart);
  values_found = All-nil (λ value. Contains [] (typed value));
  texts_found = All-nil (λ bytes. Contains [] (text bytes));
  values_apart = λ i j d below within. absurd (let no : ⊥ = omega (arith, within) in no);
  texts_apart = λ i j d below within. absurd (let no : ⊥ = omega (arith, within) in no);
})
