-- Along types that are given to columns by their names.
use Rattle.std.proofs.Common.{◌≡◌, ℕ, zero, suc, ◌+◌, ◌-◌, ◌<◌, ◌≤◌, Bool, true, false, cond, List, [], ◌∷◌, ◌++◌, drop, length, Option, Some, None, inl, inr, refl, sym, ap, ◌∙◌, arith, append_assoc, append-nil}
use Rattle.std.specs.Prelude.{option_and_then, slice_get, unwrap_or}
use Rattle.std.specs.List.{find, position_from}
use Rattle.std.specs.Map.{lookup}
use Rattle.std.specs.Str.{bytes_eq}
use Rattle.std.proofs.lemmas.Bool.{cases_Bool, false_from_ne_true}
use Rattle.std.proofs.lemmas.Slice.Eq.{bytes_eq-Decides}
use Rattle.value_types.specs.declared.types.ColumnType.{ColumnType}
use Rattle.load_options.specs.declared.options.ColumnTypes.{ColumnTypes}
use Rattle.csv_source.specs.Lists.{is_empty}
use Rattle.load_options.proofs.ListSteps.{drop-at}
use Rattle.csv_sniffer.specs.NamedTypes.{place_of, type_given, types_by_name}

-- ---- the first that passes a test

module _ {X : Type 0} (p : X → Bool) (xs : List X) (i : ℕ) (x : X) (is : slice_get xs i ≡ Some x) where
  pub found_go_on : (whole : Option X) → p x ≡ false → find p (drop i xs) ≡ whole → find p (drop (i + 1) xs) ≡ whole
  found_go_on whole fails h = sym (ap (find p) (drop-at xs i x is) ∙ ap (λ t. cond t (Some x) (find p (drop (i + 1) xs))) fails) ∙ h

  pub found_stop : (whole : Option X) → p x ≡ true → find p (drop i xs) ≡ whole → Some x ≡ whole
  found_stop whole passes h = sym (ap (find p) (drop-at xs i x is) ∙ ap (λ t. cond t (Some x) (find p (drop (i + 1) xs))) passes) ∙ h

pub found_in_none : {X : Type 0} (p : X → Bool) (xs : List X) → length xs ≡ 0 → find p xs ≡ None
found_in_none p [] h = refl
found_in_none p (x ∷ xs) h = absurd (let no : ⊥ = omega (arith, h) in no)

-- ---- the places of names

either_way : (xs ys : List ℕ) → bytes_eq xs ys ≡ bytes_eq ys xs
either_way xs ys = elim (cases_Bool (bytes_eq ys xs)) [
  | inl same ↦ (bytes_eq-Decides xs ys).1 (sym ((bytes_eq-Decides ys xs).0 same)) ∙ sym same
  | inr other ↦ false_from_ne_true (bytes_eq xs ys) (λ e. let wrong : bytes_eq ys xs ≡ true = (bytes_eq-Decides ys xs).1 (sym ((bytes_eq-Decides xs ys).0 e)) in let no : ⊥ = cc in no) ∙ sym other
]

nothing_behind : {X : Type 0} (xs : List X) (i : ℕ) → length xs ≤ i → drop i xs ≡ []
nothing_behind [] zero h = refl
nothing_behind [] (suc i) h = refl
nothing_behind (x ∷ xs) zero h = absurd (let no : ⊥ = omega (arith, h) in no)
nothing_behind (x ∷ xs) (suc i) h = nothing_behind xs i (omega (arith, h))

module _ {K : Type 0} (text : K → List ℕ) (names : List (List ℕ)) where
  abbrev noted_for : List (K × ℕ) → K → Option ℕ
  noted_for noted key = lookup (λ other. bytes_eq (text key) (text other)) noted

  abbrev place_from : ℕ → K → Option ℕ
  place_from place key = position_from (bytes_eq (text key)) place (drop place names)

  pub no_place_yet : {noted : List (K × ℕ)} {place : ℕ} (key : K) → noted ≡ [] → length names ≤ place → noted_for noted key ≡ place_from place key
  no_place_yet {noted} {place} key empty end = ap (λ es. noted_for es key) empty ∙ sym (ap (position_from (bytes_eq (text key)) place) (nothing_behind names place end))

  -- one name more, before those that are noted
  pub one_place_more : (place : ℕ) (name : K) (old new : List (K × ℕ)) → 0 < place → slice_get names (place - 1) ≡ Some (text name) →
      ((key : K) → noted_for new key ≡ cond (bytes_eq (text name) (text key)) (Some (place - 1)) (noted_for old key)) →
      ((key : K) → noted_for old key ≡ place_from place key) → (key : K) → noted_for new key ≡ place_from (place - 1) key
  one_place_more place name old new some is put before key =
      let next : place ≡ place - 1 + 1 = omega (arith, some) in
      put key
      ∙ (λ i. cond (either_way (text name) (text key) i) (Some (place - 1)) (before key i))
      ∙ ap (λ n. cond (bytes_eq (text key) (text name)) (Some (place - 1)) (place_from n key)) next
      ∙ sym (ap (position_from (bytes_eq (text key)) (place - 1)) (drop-at names (place - 1) (text name) is))

-- ---- types by name

-- no type is given
pub none_given : (given : ColumnTypes) (names : List (List ℕ)) (found : List ColumnType) → is_empty given.names ≡ true → types_by_name given names found ≡ found
none_given given names found none = along names found where
  nothing : (ns : List (List ℕ)) (name : List ℕ) → is_empty ns ≡ true → place_of ns name ≡ None
  nothing [] name e = refl
  nothing (n ∷ ns) name e = absurd (let no : ⊥ = cc in no)

  along : (ns : List (List ℕ)) (tys : List ColumnType) → types_by_name given ns tys ≡ tys
  along [] tys = refl
  along (name ∷ ns) [] = refl
  along (name ∷ ns) (ty ∷ tys) = λ i. unwrap_or (option_and_then (slice_get given.types) (nothing given.names name none i)) ty ∷ along ns tys i

-- as many types as were found
pub length-types_by_name : (given : ColumnTypes) (names : List (List ℕ)) (found : List ColumnType) → length (types_by_name given names found) ≡ length found
length-types_by_name given [] found = refl
length-types_by_name given (name ∷ names) [] = refl
length-types_by_name given (name ∷ names) (ty ∷ found) = ap (λ (n : ℕ). suc n) (length-types_by_name given names found)

-- the type of the column of a place
pub named_at : (given : ColumnTypes) (names : List (List ℕ)) (found : List ColumnType) (i : ℕ) (name : List ℕ) (ty : ColumnType) → slice_get names i ≡ Some name → slice_get found i ≡ Some ty →
    types_by_name given (drop i names) (drop i found) ≡ unwrap_or (type_given given name) ty ∷ types_by_name given (drop (i + 1) names) (drop (i + 1) found)
named_at given names found i name ty named is = λ k. types_by_name given (drop-at names i name named k) (drop-at found i ty is k)

pub unnamed_at : (given : ColumnTypes) (names : List (List ℕ)) (found : List ColumnType) (i : ℕ) (ty : ColumnType) → length names ≤ i → slice_get found i ≡ Some ty →
    types_by_name given (drop i names) (drop i found) ≡ ty ∷ types_by_name given (drop (i + 1) names) (drop (i + 1) found)
unnamed_at given names found i ty few is =
    (λ k. types_by_name given (nothing_behind names i few k) (drop-at found i ty is k))
    ∙ ap (λ ns. ty ∷ types_by_name given ns (drop (i + 1) found)) (sym (nothing_behind names (i + 1) (omega (arith, few))))

-- the types so far with the one of a column more
pub types_go_on : (made more left all next : List ColumnType) (ty : ColumnType) → more ≡ made ++ ty ∷ [] → left ≡ ty ∷ next → made ++ left ≡ all → more ++ next ≡ all
types_go_on made more left all next ty grown is whole = ap (λ tys. tys ++ next) grown ∙ append_assoc made (ty ∷ []) next ∙ ap (λ tys. made ++ tys) (sym is) ∙ whole

-- where all columns are passed, none is left
pub none_left : (given : ColumnTypes) (names : List (List ℕ)) (made all found : List ColumnType) (i : ℕ) → length found ≤ i → made ++ types_by_name given (drop i names) (drop i found) ≡ all → made ≡ all
none_left given names made all found i passed whole =
    sym (append-nil made) ∙ ap (λ tys. made ++ tys) (sym (nothing (drop i names)) ∙ ap (types_by_name given (drop i names)) (sym (nothing_behind found i passed))) ∙ whole where
      nothing : (ns : List (List ℕ)) → types_by_name given ns [] ≡ []
      nothing [] = refl
      nothing (n ∷ ns) = refl
