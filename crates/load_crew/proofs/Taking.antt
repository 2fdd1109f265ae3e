-- A list whose elements are taken from its end, one after another.
use Rattle.std.proofs.Common.{◌≡◌, List, [], ◌∷◌, ◌++◌, length, sym, ap, ◌∙◌, arith}
use Rattle.std.specs.List.{All}
use Rattle.std.proofs.lemmas.List.{append_assoc, append-nil}
use Rattle.std.proofs.lemmas.List.Elements.{All-nil, All-cons, All-weaker, All-same}

module _ {A : Type 0} where
  -- what was taken behind what is left, of which P holds
  abbrev pub AreTaken : (A → Type 0) → List A → List A → Type 0
  AreTaken P all left = (taken : List A) × (all ≡ left ++ taken) × All P taken

  pub none_taken : (P : A → Type 0) (all left : List A) → left ≡ all → AreTaken P all left
  none_taken P all left same = ([], sym same ∙ sym (append-nil left), All-nil P)

  -- one more
  pub taken_more : (P Q : A → Type 0) (all left rest : List A) (x : A) → left ≡ rest ++ x ∷ [] → ((a : A) → P a → Q a) → Q x → AreTaken P all left → AreTaken Q all rest
  taken_more P Q all left rest x is weaker one h =
      (x ∷ h.0, h.1 ∙ ap (λ xs. xs ++ h.0) is ∙ append_assoc rest (x ∷ []) h.0, All-cons Q x h.0 one (All-weaker P Q weaker h.0 h.2))

  pub all_taken : (P : A → Type 0) (all left : List A) → length left ≡ 0 → AreTaken P all left → All P all
  all_taken P all [] none h = All-same P all h.0 h.1 h.2
  all_taken P all (x ∷ xs) none h = absurd (let no : ⊥ = omega (arith, none) in no)
