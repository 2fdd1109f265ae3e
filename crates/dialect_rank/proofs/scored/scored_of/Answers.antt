use Rattle.std.proofs.Common.{◌≡◌, ℕ, zero, suc, ◌+◌, ◌<◌, Bool, List, [], ◌∷◌, ◌++◌, length, drop, get_or, slice_get, Some, ap, refl, sym, ◌∙◌, append_assoc, append-nil, arith}
use Rattle.std.proofs.lemmas.List.{drop_all, get_or_append_left, length_push}
use Rattle.std.proofs.lemmas.Option.{slice_get_within}
use Rattle.std.specs.List.{position_or_len}
use Rattle.byte_classes.specs.Dialect.{Marks}
use Rattle.load_options.proofs.ListSteps.{drop-at}
use Rattle.dialect_rank.specs.declared.scored.Scored.{Scored}
use Rattle.dialect_rank.specs.declared.scores.Score.{Score}
use Rattle.dialect_rank.specs.Alike.{reads_alike}
use Rattle.dialect_rank.specs.Score.{score_of}
use Rattle.dialect_rank.specs.Scored.{scored_from}
use Rattle.dialect_rank.proofs.AlikeScores.{first_alike_score}
use Rattle.dialect_rank.proofs.scored.scored_of.Goals as goal
use Rattle.dialect_rank.proofs.scored.scored_of.Goals.{then-alike-place, else-alike-place+in_ok-score}

module _ (sample : List ℕ) (whole : Bool) (size : ℕ) where
  -- the candidates from a place on begin with the one there
  next : (place : ℕ) (ds : List Marks) (d : Marks) (score : Score) → slice_get ds place ≡ Some d → score ≡ score_of d sample whole size →
      (record { place = place; dialect = d; score = score }) ∷ scored_from sample whole size (place + 1) (drop (place + 1) ds) ≡ scored_from sample whole size place (drop place ds)
  next place ds d score at is =
      (λ i. (record { place = place; dialect = d; score = is i }) ∷ scored_from sample whole size (place + 1) (drop (place + 1) ds))
      ∙ sym (ap (scored_from sample whole size place) (drop-at ds place d at))

  scored_at : (place : ℕ) (ds : List Marks) (k : ℕ) (x : Scored) (default : Marks) → k < length ds → (get_or (scored_from sample whole size place ds) k x).score ≡ score_of (get_or ds k default) sample whole size
  scored_at place [] k x default lt = absurd (let no : ⊥ = omega (arith, lt) in no)
  scored_at place (d ∷ ds) zero x default lt = refl
  scored_at place (d ∷ ds) (suc k) x default lt = scored_at (place + 1) ds k x default (omega (arith, lt))

  -- one that is scored already
  earlier : (done rest : List Scored) (ds : List Marks) (k : ℕ) (x : Scored) (default : Marks) → done ++ rest ≡ scored_from sample whole size 0 ds → k < length done → k < length ds →
      (get_or done k x).score ≡ score_of (get_or ds k default) sample whole size
  earlier done rest ds k x default all lt below =
      ap (λ (s : Scored). s.score) (sym (get_or_append_left done rest x k lt)) ∙ ap (λ (ss : List Scored). (get_or ss k x).score) all ∙ scored_at 0 ds k x default below

pub loop-place-preserved : goal.loop-place-preserved
loop-place-preserved c =
    let sample = c.args.sample.now in
    let whole = c.args.whole in
    let size = c.args.sample_size in
    let place = c.loop-place.place in
    let ds = c.args.candidates.now in
    let d = c.get-dialect.result in
    let h = c.loop-place.invariant in
    let done = c.loop-place.scored.items in
    let alike = c.first_alike-alike in
    let first = alike.ensures.value ∙ ap (λ bytes. position_or_len (λ other. reads_alike bytes other d) ds) h.bytes in
    let is : c.if-alike-place.score ≡ score_of d sample whole size = elim c.if-alike-place.branch [
      | then-alike-place w ↦
          let before = w.if-alike-place.true in
          w.score-is ∙ ap (λ (s : Scored). s.score) w.index.ensures
          ∙ earlier sample whole size done (scored_from sample whole size place (drop place ds)) ds alike.result w.index.result.now d h.all (omega (arith, h.many, before)) (omega (arith, before, slice_get_within ds place d c.get-dialect.ensures))
          ∙ first_alike_score sample whole size ds place alike.result d d c.requires.sound c.get-dialect.ensures first before
      | else-alike-place+in_ok-score w ↦ w.score-is ∙ w.in_ok-score.ensures
    ] in
    let rest : List Scored = scored_from sample whole size (place + 1) (drop (place + 1) ds) in
    record {
      all = ap (λ xs. xs ++ rest) c.in_ok-push.ensures.items ∙ append_assoc done _ rest
          ∙ ap (λ xs. done ++ xs) (next sample whole size place ds d c.if-alike-place.score c.get-dialect.ensures is)
          ∙ h.all;
      many = omega (arith, h.many, ap length c.in_ok-push.ensures.items, length_push done (record { place = place; dialect = d; score = c.if-alike-place.score }));
      bytes = alike.ensures.bytes ∙ h.bytes;
    }

pub returns : goal.returns
returns c =
    let ds = c.args.candidates.now in
    let place = c.loop-place.place in
    let left = scored_from c.args.sample.now c.args.whole c.args.sample_size place in
    sym (append-nil c.loop-place.scored.items)
    ∙ ap (λ xs. c.loop-place.scored.items ++ left xs) (sym (drop_all place ds (omega arith)))
    ∙ c.loop-place.invariant.all
