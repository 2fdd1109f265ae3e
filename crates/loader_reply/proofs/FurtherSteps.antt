-- Words that a part needs, one after another.
use Rattle.std.proofs.Common.{◌≡◌, ◌<◌, ◌≤◌, ℕ, zero, suc, ◌+◌, Bool, List, [], ◌∷◌, ◌++◌, length, drop, refl, sym, ◌∙◌, ap, arith, append-nil, append_assoc}
use Rattle.std.specs.Prelude.{filter}
use Rattle.std.proofs.lemmas.List.{drop_all}
use Rattle.std.proofs.lemmas.List.Elements.{filter-append}
use Rattle.load_options.specs.Texts.{word_at}

drop_word : (words : List (List ℕ)) (place : ℕ) → place < length words → drop place words ≡ word_at words place ∷ drop (place + 1) words
drop_word [] place there = absurd (let wrong : ⊥ = omega (arith, there) in wrong)
drop_word (word ∷ words) zero there = refl
drop_word (word ∷ words) (suc place) there =
    let next : suc (place + 1) ≡ suc place + 1 = omega arith in
    drop_word words place (omega (arith, there)) ∙ ap (λ n. word_at words place ∷ drop n (word ∷ words)) next

module _ (p : List ℕ → Bool) (words : List (List ℕ)) (all made : List (List ℕ)) (place : ℕ) (so_far : made ++ filter p (drop place words) ≡ all) where
  pub one_further : place < length words → (more : List (List ℕ)) → more ≡ made ++ filter p (word_at words place ∷ []) → more ++ filter p (drop (place + 1) words) ≡ all
  one_further there more is =
      ap (λ (l : List (List ℕ)). l ++ filter p (drop (place + 1) words)) is
      ∙ (append_assoc made (filter p (word_at words place ∷ [])) (filter p (drop (place + 1) words))
      ∙ (ap (λ (l : List (List ℕ)). made ++ l) (sym (filter-append p (word_at words place ∷ []) (drop (place + 1) words)) ∙ ap (filter p) (sym (drop_word words place there)))
      ∙ so_far))

  pub all_further : length words ≤ place → made ≡ all
  all_further done = sym (ap (λ (l : List (List ℕ)). made ++ filter p l) (drop_all place words done) ∙ append-nil made) ∙ so_far
