-- The best candidate so far, one by one.
use Rattle.std.proofs.Common.{◌≡◌, ℕ, ◌+◌, ◌<◌, Bool, true, false, cond, List, length, get_or, map, Some, slice_get, refl, sym, ap, ◌∙◌, subst, arith}
use Rattle.std.specs.Prelude.{All}
use Rattle.std.specs.List.{IsFirstBest, position_or_len}
use Rattle.std.proofs.lemmas.List.{get_or-map, length-map}
use Rattle.std.proofs.lemmas.List.MinMax.{IsFirstBest-keeps, IsFirstBest-none, IsFirstBest-takes, IsFirstBest-unique}
use Rattle.std.proofs.lemmas.Option.{get_or_from_slice_get, slice_get_within}
use Rattle.byte_classes.specs.Dialect.{Marks, IsDialect}
use Rattle.dialect_rank.specs.declared.scores.Score.{Score}
use Rattle.dialect_rank.specs.declared.ranked.Ranked.{Ranked}
use Rattle.dialect_rank.specs.Alike.{reads_alike}
use Rattle.dialect_rank.specs.Rank.{is_above, best_place}
use Rattle.dialect_rank.specs.Ranked.{higher, ranked_of}
use Rattle.dialect_rank.specs.Score.{score_of}
use Rattle.dialect_rank.proofs.AlikeScores.{first_alike_score}
use Rattle.dialect_rank.proofs.RankLaws.{best_is_first_highest, is_ranked}

module _ (sample : List ℕ) (whole : Bool) (size : ℕ) (candidates : List Marks) (default : Marks) where
  abbrev score : Marks → Score
  score d = score_of d sample whole size

  abbrev scores : List Score
  scores = map score candidates

  abbrev pub ranked : Marks → Ranked
  ranked d = ranked_of d sample whole size

  -- the best of the candidates before a place
  abbrev pub IsBestBelow : ℕ → Ranked → Type 0
  IsBestBelow place best = (b : ℕ) × IsFirstBest is_above scores place b × (best ≡ ranked (get_or candidates b default))

  pub best_of_one : (d : Marks) (best : Ranked) → slice_get candidates 0 ≡ Some d → best ≡ ranked d → IsBestBelow 1 best
  best_of_one d best h is = (0, IsFirstBest-none is_ranked scores, is ∙ ap ranked (sym (get_or_from_slice_get candidates 0 d default h)))

  module _ (place : ℕ) (best : Ranked) (d : Marks) (h : slice_get candidates place ≡ Some d) (b : ℕ) (first : IsFirstBest is_above scores place b) (was : best ≡ ranked (get_or candidates b default)) where
    below : place < length candidates
    below = slice_get_within candidates place d h

    within : place < length scores
    within = omega (arith, below, length-map candidates score)

    at_x : score d ≡ get_or scores place (score d)
    at_x = sym (get_or-map score candidates place d (score d) below ∙ ap score (get_or_from_slice_get candidates place d d h))

    at_y : best.score ≡ get_or scores b best.score
    at_y = ap (λ (r : Ranked). r.score) was ∙ sym (get_or-map score candidates b default best.score (omega (arith, first.0, below)))

    -- one that isn't above the best one
    pub best_of_kept : is_above (score d) best.score ≡ false → IsBestBelow (place + 1) best
    best_of_kept level = (b, IsFirstBest-keeps is_ranked scores place b (score d) best.score first within at_x at_y level, was)

    -- one that reads the sample as an earlier one does
    pub best_of_alike : (earlier : ℕ) → All IsDialect candidates → earlier ≡ position_or_len (λ other. reads_alike sample other d) candidates → earlier < place → IsBestBelow (place + 1) best
    best_of_alike earlier sound is before =
        let same : score (get_or candidates earlier default) ≡ score d = first_alike_score sample whole size candidates place earlier d default sound h is before in
        let at_earlier : score d ≡ get_or scores earlier best.score =
        sym (get_or-map score candidates earlier default best.score (omega (arith, before, below)) ∙ same) in
        best_of_kept ((λ i. is_above (at_earlier i) (at_y i)) ∙ first.1 earlier best.score before)

    by_order : (new : Ranked) (above : Bool) → is_above (score d) best.score ≡ above → new ≡ higher best (ranked d) → IsBestBelow (place + 1) new
    by_order new true up is = (
      place,
      IsFirstBest-takes is_ranked scores place b (score d) best.score first within at_x at_y up,
      is ∙ ap (λ t. cond t (ranked d) best) up ∙ ap ranked (sym (get_or_from_slice_get candidates place d default h)),
    )
    by_order new false level is = subst (IsBestBelow (place + 1)) (sym (is ∙ ap (λ t. cond t (ranked d) best) level)) (best_of_kept level)

    pub best_of_more : (new : Ranked) → new ≡ higher best (ranked d) → IsBestBelow (place + 1) new
    best_of_more new is = by_order new (is_above (score d) best.score) refl is

  -- the best of all is the first highest
  pub best_of_all : (place : ℕ) (best : Ranked) → place ≡ length candidates → 0 < length candidates → IsBestBelow place best → best ≡ ranked (get_or candidates (best_place scores) default)
  best_of_all place best all some (b, first, is) =
      let long : length scores ≡ length candidates = length-map candidates score in
      let law = best_is_first_highest scores (omega (arith, some, long)) in
      let end : place ≡ length scores = omega (arith, all, long) in
      let same : b ≡ best_place scores = IsFirstBest-unique is_ranked scores (length scores) b (best_place scores) (score default) (subst (λ n. IsFirstBest is_above scores n b) end first) (law.within, law.highest, law.first) in
      is ∙ ap (λ k. ranked (get_or candidates k default)) same
