use Rattle.std.proofs.Common.{◌≡◌, ℕ, ◌+◌, ◌<◌, List, length, get_or, sym, subst, ◌∙◌, arith}
use Rattle.std.specs.List.{IsFirstBest}
use Rattle.std.proofs.lemmas.List.{get_or_default}
use Rattle.std.proofs.lemmas.List.MinMax.{IsFirstBest-keeps, IsFirstBest-takes, IsFirstBest-unique}
use Rattle.dialect_rank.specs.declared.scores.Score.{Score}
use Rattle.dialect_rank.specs.Rank.{is_above, best_place}
use Rattle.dialect_rank.proofs.RankLaws.{is_ranked, best_is_first_highest}
use Rattle.dialect_rank.proofs.best_place.best.Goals as goal
use Rattle.dialect_rank.proofs.best_place.best.Goals.{then-is_above, else-is_above}

abbrev no_score : Score
no_score = record { rows = 0; mode = 0; agree = 0; closed = 0; flawed = 0 }

pub loop-place-preserved : goal.loop-place-preserved
loop-place-preserved c =
    let scores : List Score = c.args.scores.now in
    let place : ℕ = c.loop-place.place in
    let best : ℕ = c.loop-place.best in
    let x : Score = get_or scores place no_score in
    let y : Score = get_or scores best no_score in
    let best_in : best < length scores = omega (arith, c.loop-place.invariant.0, c.loop-place-test.true) in
    let at_x : x ≡ get_or scores place x = get_or_default scores place no_score x c.loop-place-test.true in
    let at_y : y ≡ get_or scores best y = get_or_default scores best no_score y best_in in
    elim c.if-is_above.branch [
      | then-is_above w ↦ subst (IsFirstBest is_above scores (place + 1)) (sym w.best-is)
          (IsFirstBest-takes is_ranked scores place best x y c.loop-place.invariant c.loop-place-test.true at_x at_y (sym c.is_above.ensures ∙ w.if-is_above.true))
      | else-is_above w ↦ subst (IsFirstBest is_above scores (place + 1)) (sym w.best-is)
          (IsFirstBest-keeps is_ranked scores place best x y c.loop-place.invariant c.loop-place-test.true at_x at_y (sym c.is_above.ensures ∙ w.if-is_above.false))
    ]

pub returns : goal.returns
returns c =
    let scores : List Score = c.args.scores.now in
    let end : c.loop-place.place ≡ length scores = omega (arith, c.loop-place.auto.place-end, c.loop-place-test.false, c.requires) in
    let law = best_is_first_highest scores c.requires in
    IsFirstBest-unique is_ranked scores (length scores) c.loop-place.best (best_place scores) no_score
    (subst (λ n. IsFirstBest is_above scores n c.loop-place.best) end c.loop-place.invariant) (law.within, law.highest, law.first)
