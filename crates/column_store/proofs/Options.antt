-- Values that may be null: what is read, appended and cut off.
use Rattle.std.proofs.Common.{◌≡◌, ℕ, zero, suc, ◌<◌, ◌≤◌, refl, sym, ap, ◌∙◌, arith, Bool, true, false, List, [], ◌∷◌, ◌++◌, length, get_or, take, Some, None}
use Rattle.std.specs.Prelude.{if◌then◌else◌, slice_get}
use Rattle.std.proofs.lemmas.List.{append-nil}
use Rattle.std.specs.Option.{option_map}
use Rattle.value_types.specs.Texts.{on_last}
use Rattle.column_store.specs.Nullable.{options_of}

module _ {A : Type 0} where
  pub length-options : (nulls : List Bool) (values : List A) → length (options_of nulls values) ≡ length values
  length-options nulls [] = refl
  length-options [] (v ∷ values) = ap suc (length-options [] values)
  length-options (n ∷ nulls) (v ∷ values) = ap suc (length-options nulls values)

  slice_get-options : (nulls : List Bool) (values : List A) (row : ℕ) (v : A) → row < length values →
      slice_get (options_of nulls values) row ≡ Some (if get_or nulls row false then None else Some (get_or values row v))
  slice_get-options nulls [] row v below = absurd (let no : ⊥ = omega (arith, below) in no)
  slice_get-options [] (w ∷ values) zero v below = refl
  slice_get-options [] (w ∷ values) (suc row) v below = slice_get-options [] values row v (omega (arith, below))
  slice_get-options (m ∷ nulls) (w ∷ values) zero v below = refl
  slice_get-options (m ∷ nulls) (w ∷ values) (suc row) v below = slice_get-options nulls values row v (omega (arith, below))

  pub null_at : (nulls : List Bool) (values : List A) (row : ℕ) (n : Bool) → row < length values → n ≡ get_or nulls row false → n ≡ true →
      slice_get (options_of nulls values) row ≡ Some None
  null_at nulls [] row n below is e = absurd (let no : ⊥ = omega (arith, below) in no)
  null_at nulls (v ∷ values) row n below is e =
      slice_get-options nulls (v ∷ values) row v below ∙ ap (λ (b : Bool). Some (if b then None else Some (get_or (v ∷ values) row v))) (sym is ∙ e)

  pub value_at : (nulls : List Bool) (values : List A) (row : ℕ) (n : Bool) (v : A) → row < length values → n ≡ get_or nulls row false → n ≡ false → v ≡ get_or values row v →
      slice_get (options_of nulls values) row ≡ Some (Some v)
  value_at nulls values row n v below is e read =
      slice_get-options nulls values row v below ∙ ap (λ (b : Bool). Some (if b then None else Some (get_or values row v))) (sym is ∙ e) ∙ ap (λ x. Some (Some x)) (sym read)

  -- values behind those that have a mark aren't null
  pub options-behind : (nulls : List Bool) (values more : List A) → length nulls ≤ length values →
      options_of nulls (values ++ more) ≡ options_of nulls values ++ options_of [] more
  options-behind [] [] more short = refl
  options-behind (n ∷ nulls) [] more short = absurd (let no : ⊥ = omega (arith, short) in no)
  options-behind [] (v ∷ values) more short = ap (λ os. Some v ∷ os) (options-behind [] values more (omega arith))
  options-behind (n ∷ nulls) (v ∷ values) more short = ap (λ os. (if n then None else Some v) ∷ os) (options-behind nulls values more (omega (arith, short)))

  pub options-append : (nulls : List Bool) (values : List A) (nulls' : List Bool) (values' : List A) → length nulls ≡ length values →
      options_of (nulls ++ nulls') (values ++ values') ≡ options_of nulls values ++ options_of nulls' values'
  options-append [] [] nulls' values' same = refl
  options-append [] (v ∷ values) nulls' values' same = absurd (let no : ⊥ = omega (arith, same) in no)
  options-append (n ∷ nulls) [] nulls' values' same = absurd (let no : ⊥ = omega (arith, same) in no)
  options-append (n ∷ nulls) (v ∷ values) nulls' values' same = ap (λ os. (if n then None else Some v) ∷ os) (options-append nulls values nulls' values' (omega (arith, same)))

  -- marks that stand beside the values behind those before
  pub options-appended : (nulls : List Bool) (values : List A) (nulls' : List Bool) (values' : List A) → length nulls ≤ length values → (0 < length nulls' → length nulls ≡ length values) →
      options_of (nulls ++ nulls') (values ++ values') ≡ options_of nulls values ++ options_of nulls' values'
  options-appended nulls values [] values' short same = ap (λ ns. options_of ns (values ++ values')) (append-nil nulls) ∙ options-behind nulls values values' short
  options-appended nulls values (n ∷ nulls') values' short same = options-append nulls values (n ∷ nulls') values' (same (omega arith))

  -- a mark more that isn't set
  pub options-unmarked : (nulls : List Bool) (values : List A) → options_of (nulls ++ false ∷ []) values ≡ options_of nulls values
  options-unmarked nulls [] = refl
  options-unmarked [] (v ∷ values) = refl
  options-unmarked (n ∷ nulls) (v ∷ values) = ap (λ os. (if n then None else Some v) ∷ os) (options-unmarked nulls values)

  unmarked-take : (count : ℕ) (values : List A) → options_of [] (take count values) ≡ take count (options_of [] values)
  unmarked-take zero values = refl
  unmarked-take (suc count) [] = refl
  unmarked-take (suc count) (v ∷ values) = ap (λ os. Some v ∷ os) (unmarked-take count values)

  pub options-take : (count : ℕ) (nulls : List Bool) (values : List A) → options_of (take count nulls) (take count values) ≡ take count (options_of nulls values)
  options-take zero nulls values = refl
  options-take (suc count) nulls [] = refl
  options-take (suc count) [] (v ∷ values) = ap (λ os. Some v ∷ os) (unmarked-take count values)
  options-take (suc count) (n ∷ nulls) (v ∷ values) = ap (λ os. (if n then None else Some v) ∷ os) (options-take count nulls values)

  -- the last value is changed, unless it is null
  changed_or_null : (change : A → A) (is_null : Bool) (v : A) → (if is_null then None else Some (change v)) ≡ option_map change (if is_null then None else Some v)
  changed_or_null change true v = refl
  changed_or_null change false v = refl

  pub options-last : (change : A → A) (nulls : List Bool) (values : List A) → options_of nulls (on_last change values) ≡ on_last (option_map change) (options_of nulls values)
  options-last change nulls [] = refl
  options-last change [] (v ∷ []) = refl
  options-last change [] (v ∷ w ∷ values) = ap (λ os. Some v ∷ os) (options-last change [] (w ∷ values))
  options-last change (n ∷ nulls) (v ∷ []) = ap (λ o. o ∷ []) (changed_or_null change n v)
  options-last change (n ∷ []) (v ∷ w ∷ values) = ap (λ os. (if n then None else Some v) ∷ os) (options-last change [] (w ∷ values))
  options-last change (n ∷ m ∷ nulls) (v ∷ w ∷ values) = ap (λ os. (if n then None else Some v) ∷ os) (options-last change (m ∷ nulls) (w ∷ values))
