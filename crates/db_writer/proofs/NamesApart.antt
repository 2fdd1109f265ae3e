-- Names that are made different without ASCII case, one more at a time.
use Rattle.std.proofs.Common.{◌≡◌, ℕ, zero, suc, ◌+◌, ◌-◌, ◌<◌, ◌≤◌, Bool, true, false, not, ◌||◌, cond, List, [], ◌∷◌, ◌++◌, map, reverse, Some, length, inl, inr, refl, sym, ◌∙◌, ap, subst, arith, append_assoc}
use Rattle.std.specs.Prelude.{unwrap_or, codes, IsPermutation}
use Rattle.std.specs.Bool.{MatchBool}
use Rattle.std.specs.Char.{to_ascii_lowercase}
use Rattle.std.specs.Fmt.{decimal}
use Rattle.std.specs.List.{find, range_with_len}
use Rattle.std.specs.Map.{lookup}
use Rattle.std.specs.Str.{bytes_eq}
use Rattle.std.proofs.lemmas.Bool.{cases_Bool, cases_lt, cond_both, not-false}
use Rattle.std.proofs.lemmas.List.{map-append}
use Rattle.std.proofs.lemmas.List.Sorted.{list_any-IsPermutation}
use Rattle.std.proofs.lemmas.Slice.Eq.{bytes_eq-Decides}
use Rattle.load_options.specs.Texts.{is_among}
use Rattle.csv_sniffer.specs.ColumnNames.{with_number, first_free, is_key}
use Rattle.csv_sniffer.proofs.NameSteps.{reversed}
use Rattle.db_writer.specs.Naming.{IsTakenTo, NumbersAreTaken, clean_name, database_names, folded, is_same_name, names_apart}

-- ---- the first number that is free

module _ (is_taken : List ℕ → Bool) (name : List ℕ) (count : ℕ) where
  abbrev pub free_from : ℕ → List ℕ
  free_from tried = unwrap_or (find (λ other. not (is_taken other)) (map (with_number name) (range_with_len (tried + 1) (count - tried)))) name

  pub begins : is_taken name ≡ true → free_from 0 ≡ first_free is_taken count name
  begins taken =
      let all : count - 0 ≡ count = omega arith in
      ap (λ n. unwrap_or (find (λ other. not (is_taken other)) (map (with_number name) (range_with_len 1 n))) name) all
      ∙ sym (ap (λ t. cond t (unwrap_or (find (λ other. not (is_taken other)) (map (with_number name) (range_with_len 1 count))) name) name) taken)

  next : (tried : ℕ) → tried < count → free_from tried ≡
      unwrap_or (cond (not (is_taken (with_number name (tried + 1)))) (Some (with_number name (tried + 1))) (find (λ other. not (is_taken other)) (map (with_number name) (range_with_len (tried + 1 + 1) (count - (tried + 1)))))) name
  next tried within =
      let more : count - tried ≡ suc (count - (tried + 1)) = omega (arith, within) in
      ap (λ n. unwrap_or (find (λ other. not (is_taken other)) (map (with_number name) (range_with_len (tried + 1) n))) name) more

  pub is_free : (tried : ℕ) (other : List ℕ) → tried < count → other ≡ with_number name (tried + 1) → is_taken other ≡ false → other ≡ free_from tried
  is_free tried other within is free =
      is ∙ sym (next tried within ∙ ap (λ t. unwrap_or (cond (not t) (Some (with_number name (tried + 1))) (find (λ other. not (is_taken other)) (map (with_number name) (range_with_len (tried + 1 + 1) (count - (tried + 1)))))) name) (ap is_taken (sym is) ∙ free))

  pub not_free : (tried : ℕ) (other : List ℕ) → tried < count → other ≡ with_number name (tried + 1) → is_taken other ≡ true → free_from tried ≡ free_from (tried + 1)
  not_free tried other within is taken =
      next tried within ∙ ap (λ t. unwrap_or (cond (not t) (Some (with_number name (tried + 1))) (find (λ other. not (is_taken other)) (map (with_number name) (range_with_len (tried + 1 + 1) (count - (tried + 1)))))) name) (ap is_taken (sym is) ∙ taken)

  pub none_is_free : (tried : ℕ) → count ≤ tried → free_from tried ≡ name
  none_is_free tried end =
      let over : count - tried ≡ 0 = omega (arith, end) in
      ap (λ n. unwrap_or (find (λ other. not (is_taken other)) (map (with_number name) (range_with_len (tried + 1) n))) name) over

  -- numbers that are taken are passed over
  pub skipped : (tried : ℕ) → ((n : ℕ) → n < tried → is_taken (with_number name (n + 1)) ≡ true) → free_from tried ≡ free_from 0
  skipped zero known = refl
  skipped (suc n) known =
      let before = skipped n (λ k low. known k (omega (arith, low))) in
      elim (cases_lt n count) [
        | inl within ↦
            (let next_one : suc n ≡ n + 1 = omega arith in ap free_from next_one ∙ sym (not_free n (with_number name (n + 1)) within refl (known n (omega arith))) ∙ before)
        | inr end ↦ none_is_free (suc n) (omega (arith, end)) ∙ sym (none_is_free n end) ∙ before
      ]

-- ---- the numbers that are noted

module _ {K : Type 0} (text : K → List ℕ) where
  -- a name with a number is taken as its folded one is
  pub taken-folded : (keys : List K) (name key : List ℕ) (n : ℕ) → key ≡ folded name → is_key keys text (folded (with_number name n)) ≡ is_key keys text (key ++ folded (codes "_" ++ decimal n))
  taken-folded keys name key n is =
      ap (is_key keys text) (ap folded (append_assoc name (codes "_") (decimal n)) ∙ map-append to_ascii_lowercase name (codes "_" ++ decimal n) ∙ ap (λ k. k ++ folded (codes "_" ++ decimal n)) (sym is))

  pub one_more : (keys : List K) (name key other : List ℕ) (tried : ℕ) → key ≡ folded name → IsTakenTo keys text key tried → other ≡ with_number name (tried + 1) → is_key keys text (folded other) ≡ true →
      IsTakenTo keys text key (tried + 1)
  one_more keys name key other tried is known numbered taken = λ n low. elim (cases_lt n tried) [
    | inl less ↦ known n less
    | inr more ↦
        (let same : n ≡ tried = omega (arith, low, more) in
        ap (λ k. is_key keys text (key ++ folded (codes "_" ++ decimal (k + 1)))) same ∙ sym (taken-folded keys name key (tried + 1) is) ∙ ap (λ o. is_key keys text (folded o)) (sym numbered) ∙ taken)
  ]

  -- another number is noted
  pub noted : (keys : List K) (old new : List (K × ℕ)) (name : K) (number : ℕ) → IsTakenTo keys text (text name) number →
      ((q : K) → lookup (λ other. bytes_eq (text q) (text other)) new ≡ cond (bytes_eq (text name) (text q)) (Some number) (lookup (λ other. bytes_eq (text q) (text other)) old)) →
      NumbersAreTaken keys old text → NumbersAreTaken keys new text
  noted keys old new name number known put before = λ q. subst (λ o. IsTakenTo keys text (text q) (unwrap_or o 0)) (sym (put q))
      (cond_both (bytes_eq (text name) (text q)) (Some number) (lookup (λ other. bytes_eq (text q) (text other)) old) (λ o. IsTakenTo keys text (text q) (unwrap_or o 0))
      (λ e. subst (λ t. IsTakenTo keys text t number) ((bytes_eq-Decides (text name) (text q)).0 e) known) (λ e. before q))

  -- names that are taken stay so
  pub still_taken : (keys more : List K) (numbers : List (K × ℕ)) → ((name : List ℕ) → is_key keys text name ≡ true → is_key more text name ≡ true) →
      NumbersAreTaken keys numbers text → NumbersAreTaken more numbers text
  still_taken keys more numbers stays before = λ q n low. stays _ (before q n low)

-- ---- one name more

pub next_name : (names more : List (List ℕ)) (name wanted : List ℕ) (later whole : List (List ℕ)) → more ≡ names ++ name ∷ [] →
    name ≡ first_free (is_same_name (reverse names)) (length (reverse names)) wanted → names ++ names_apart (reverse names) (wanted ∷ later) ≡ whole → more ++ names_apart (reverse more) later ≡ whole
next_name names more name wanted later whole grown is before =
    (λ i. grown i ++ names_apart (reversed names more name grown i) later)
    ∙ append_assoc names (name ∷ []) (names_apart (name ∷ reverse names) later)
    ∙ ap (λ f. names ++ f ∷ names_apart (f ∷ reverse names) later) is
    ∙ before

-- a text that is there already
there : (texts : List (List ℕ)) (text name : List ℕ) → is_among texts text ≡ true → is_among texts name ≡ (bytes_eq name text || is_among texts name)
there texts text name is = elim (cases_Bool (bytes_eq name text)) [
  | inl e ↦ (let same : name ≡ text = (bytes_eq-Decides name text).0 e in ap (is_among texts) same ∙ is ∙ sym (ap (λ t. t || is_among texts name) e))
  | inr e ↦ sym (ap (λ t. t || is_among texts name) e)
]

pub next_key : {K : Type 0} (text : K → List ℕ) (added : Bool) (old new : List K) (key : K) (names : List (List ℕ)) → added ≡ not (is_key old text (text key)) →
    MatchBool added (IsPermutation (key ∷ old) new) (new ≡ old) → ((name : List ℕ) → is_key old text name ≡ is_among names name) → (name : List ℕ) →
    is_key new text name ≡ is_among (text key ∷ names) name
next_key text true old new key names is put same name =
    sym (list_any-IsPermutation (λ k. bytes_eq name (text k)) (key ∷ old) new put) ∙ ap (λ t. bytes_eq name (text key) || t) (same name)
next_key text false old new key names is put same name =
    let known : is_among names (text key) ≡ true = sym (same (text key)) ∙ not-false (is_key old text (text key)) (sym is) in
    ap (λ ks. is_key ks text name) put ∙ same name ∙ there names (text key) name known

length-names_apart : (earlier names : List (List ℕ)) → length (names_apart earlier names) ≡ length names
length-names_apart earlier [] = refl
length-names_apart earlier (name ∷ names) = ap suc (length-names_apart (first_free (is_same_name earlier) (length earlier) name ∷ earlier) names)

length-clean : (names : List (List ℕ)) → length (map clean_name names) ≡ length names
length-clean [] = refl
length-clean (name ∷ names) = ap suc (length-clean names)

pub length-database_names : (names : List (List ℕ)) → length (database_names names) ≡ length names
length-database_names names = length-names_apart [] (map clean_name names) ∙ length-clean names
