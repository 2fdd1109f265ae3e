-- Bytes among which there is no cut, byte by byte.
use Rattle.std.proofs.Common.{◌≡◌, ℕ, ◌+◌, ◌<◌, false, List, [], ◌∷◌, ◌++◌, length, take, drop, get_or, refl, sym, ◌∙◌, ap, subst, append_assoc}
use Rattle.std.proofs.lemmas.List.{drop_more, take_more}
use Rattle.byte_classes.specs.Dialect.{Marks}
use Rattle.quote_automaton.specs.declared.state.State.{State}
use Rattle.quote_automaton.specs.Automaton.{state_after, step}
use Rattle.part_cuts.specs.Cut.{is_cut}
use Rattle.part_cuts.specs.NoCut.{NoCut}

no_cut_more : (d : Marks) (s : State) (bytes : List ℕ) (b : ℕ) (seen : List ℕ) → NoCut d s bytes (b ∷ seen) → is_cut d (state_after d s bytes) (b ∷ seen) ≡ false → NoCut d s (bytes ++ b ∷ []) seen
no_cut_more d s [] b seen none here = (here, tt)
no_cut_more d s (x ∷ bytes) b seen none here =
    (ap (λ (l : List ℕ). is_cut d s (x ∷ l)) (append_assoc bytes (b ∷ []) seen) ∙ none.0, no_cut_more d (step d s x) bytes b seen none.1 here)

state_more : (d : Marks) (s : State) (bytes : List ℕ) (b : ℕ) → state_after d s (bytes ++ b ∷ []) ≡ step d (state_after d s bytes) b
state_more d s [] b = refl
state_more d s (x ∷ bytes) b = state_more d (step d s x) bytes b

-- past a byte that is no cut
pub no_cut_step : (d : Marks) (s t : State) (bytes : List ℕ) (at : ℕ) → at < length bytes → t ≡ state_after d s (take at bytes) → NoCut d s (take at bytes) (drop at bytes) →
    is_cut d t (drop at bytes) ≡ false → NoCut d s (take (at + 1) bytes) (drop (at + 1) bytes) × (step d t (get_or bytes at 0) ≡ state_after d s (take (at + 1) bytes))
no_cut_step d s t bytes at below is none here =
    let b : ℕ = get_or bytes at 0 in
    let rest : List ℕ = drop (at + 1) bytes in
    let whole : take (at + 1) bytes ≡ take at bytes ++ b ∷ [] = take_more bytes at 0 below in
    let left : drop at bytes ≡ b ∷ rest = drop_more bytes at 0 below in (
      subst (λ (l : List ℕ). NoCut d s l rest) (sym whole)
          (no_cut_more d s (take at bytes) b rest (subst (NoCut d s (take at bytes)) left none) (ap (is_cut d (state_after d s (take at bytes))) (sym left) ∙ (ap (λ u. is_cut d u (drop at bytes)) (sym is) ∙ here))),
      ap (λ u. step d u b) is ∙ (sym (state_more d s (take at bytes) b) ∙ ap (state_after d s) (sym whole)),
    )
