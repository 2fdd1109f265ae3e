-- The first candidate in the order of rank is the best one.
use Rattle.std.proofs.Common.{◌≡◌, ℕ, zero, suc, ◌+◌, ◌<◌, ◌≤◌, Bool, true, false, cond, not, ◌&&◌, List, [], ◌∷◌, ◌++◌, length, get_or, map, None, Some, refl, sym, ap, ◌∙◌, arith, inl, inr}
use Rattle.std.specs.Prelude.{◌==◌, nat_lt, All, filter, flat_map, option_map, slice_get}
use Rattle.std.specs.List.{range_with_len}
use Rattle.std.proofs.lemmas.Bool.{and_left, and_right, and_from, or_parts, or_from, not_from_true, not_from_false, cases_lt, cases_order, lt-ltb, le-ltb, eqb-true}
use Rattle.std.proofs.lemmas.List.{get_or-map, length-map}
use Rattle.std.proofs.lemmas.List.Elements.{All-filter, filter_passes}
use Rattle.std.proofs.lemmas.List.Sums.{get_or-le-sum_by, length-filter, sum_by-le}
use Rattle.byte_classes.specs.Dialect.{Marks}
use Rattle.dialect_rank.specs.declared.scored.Scored.{Scored}
use Rattle.dialect_rank.specs.declared.scores.Score.{Score}
use Rattle.dialect_rank.specs.Candidates.{candidates_of, with_delim, no_quote}
use Rattle.dialect_rank.specs.Laws.{IsFirstHighest}
use Rattle.dialect_rank.specs.Rank.{is_above, best_place}
use Rattle.dialect_rank.specs.Score.{score_of}
use Rattle.dialect_rank.specs.Scored.{in_rank_order, scored_from, standing, stands_before}
use Rattle.dialect_rank.proofs.RankLaws.{best_is_first_highest}
use Rattle.dialect_rank.proofs.SomeCandidate.{some_candidates}
use Rattle.csv_sniffer.specs.Laws.{FirstCandidateIsFound}

-- ---- the first of lists in a row

first_of : {X : Type 0} (xs ys : List X) (d : X) → 0 < length xs → slice_get (xs ++ ys) 0 ≡ Some (get_or xs 0 d)
first_of [] ys d some = absurd (let no : ⊥ = omega (arith, some) in no)
first_of (x ∷ xs) ys d some = refl

first_of_all : {X : Type 0} (f : ℕ → List X) (n : ℕ) (d : X) → 0 < n → 0 < length (f 0) → slice_get (flat_map f (range_with_len 0 n)) 0 ≡ Some (get_or (f 0) 0 d)
first_of_all f zero d some more = absurd (let no : ⊥ = omega (arith, some) in no)
first_of_all f (suc n) d some more = first_of (f 0) (flat_map f (range_with_len 1 n)) d more

none_or_one : (b : Bool) → cond {A = ℕ} b 1 0 ≤ 0 → b ≡ false
none_or_one true h = absurd (let no : ⊥ = omega (arith, h) in no)
none_or_one false h = refl

-- ---- candidates with their places and scores

module _ (sample : List ℕ) (whole : Bool) (size : ℕ) where
  abbrev score : Marks → Score
  score d = score_of d sample whole size

  abbrev one : ℕ → Marks → Scored
  one place d = record { place = place; dialect = d; score = score d }

  length-scored_from : (place : ℕ) (ds : List Marks) → length (scored_from sample whole size place ds) ≡ length ds
  length-scored_from place [] = refl
  length-scored_from place (d ∷ ds) = ap suc (length-scored_from (place + 1) ds)

  scored_at : (place : ℕ) (ds : List Marks) (k : ℕ) (c : Scored) (d : Marks) → k < length ds → get_or (scored_from sample whole size place ds) k c ≡ one (place + k) (get_or ds k d)
  scored_at place [] k c d lt = absurd (let no : ⊥ = omega (arith, lt) in no)
  scored_at place (e ∷ ds) zero c d lt = let here : place ≡ place + 0 = omega arith in ap (λ p. one p e) here
  scored_at place (e ∷ ds) (suc k) c d lt =
      let on : place + 1 + k ≡ place + suc k = omega arith in scored_at (place + 1) ds k c d (omega (arith, lt)) ∙ ap (λ p. one p (get_or ds k d)) on

  module _ (candidates : List Marks) (d : Marks) (some : 0 < length candidates) where
    abbrev scores : List Score
    scores = map score candidates

    abbrev scored : List Scored
    scored = scored_from sample whole size 0 candidates

    abbrev best : ℕ
    best = best_place scores

    abbrev at : ℕ → Scored
    at k = one k (get_or candidates k d)

    long : length scores ≡ length candidates
    long = length-map candidates score

    as_many : length scored ≡ length candidates
    as_many = length-scored_from 0 candidates

    law : IsFirstHighest scores best
    law = best_is_first_highest scores (omega (arith, some, long))

    within : best < length candidates
    within = omega (arith, law.within, long)

    is_at : (k : ℕ) (c : Scored) → k < length candidates → get_or scored k c ≡ at k
    is_at k c lt = let here : 0 + k ≡ k = omega arith in scored_at 0 candidates k c d lt ∙ ap (λ p. one p (get_or candidates k d)) here

    score_at : (k : ℕ) → k < length candidates → score (get_or candidates k d) ≡ get_or scores k (score d)
    score_at k lt = sym (get_or-map score candidates k d (score d) lt)

    highest : (k : ℕ) → k < length candidates → is_above (at k).score (at best).score ≡ false
    highest k lt = (λ i. is_above (score_at k lt i) (score_at best within i)) ∙ law.highest k (score d) (omega (arith, lt, long))

    first : (k : ℕ) → k < best → is_above (at best).score (at k).score ≡ true
    first k lt = (λ i. is_above (score_at best within i) (score_at k (omega (arith, lt, within)) i)) ∙ law.first k (score d) lt

    -- none is better than the best one
    none_before : (k : ℕ) → k < length candidates → stands_before (at k) (at best) ≡ false
    none_before k lt = or_from _ _ (highest k lt) (elim (cases_lt k best) [
      | inl before ↦ and_left _ _ (not_from_true _ (first k before))
      | inr behind ↦ and_right _ _ (le-ltb k best behind)
    ])

    -- and the best one is better than each other
    only_best : (k : ℕ) → k < length candidates → stands_before (at best) (at k) ≡ false → k ≡ best
    only_best k lt h = let parts = or_parts _ _ h in elim (cases_order k best) [
      | inl same ↦ same
      | inr (inl before) ↦ absurd (let up : is_above (at best).score (at k).score ≡ true = first k before in let level : is_above (at best).score (at k).score ≡ false = parts.0 in let no : ⊥ = cc in no)
      | inr (inr behind) ↦ absurd (let later : (not (is_above (at k).score (at best).score) && nat_lt best k) ≡ true = and_from _ _ (not_from_false _ (highest k lt)) (lt-ltb best k behind) in
          let level : (not (is_above (at k).score (at best).score) && nat_lt best k) ≡ false = parts.1 in let no : ⊥ = cc in no)
    ]

    -- ---- how many are better

    standing_best : standing scored (at best) ≡ 0
    standing_best =
        let few = sum_by-le (λ other. cond (stands_before other (at best)) 1 0) 0 scored
        (λ k c lt. let here : k < length candidates = omega (arith, lt, as_many) in
        let none : cond {A = ℕ} (stands_before (get_or scored k c) (at best)) 1 0 ≡ 0 = ap (λ x. cond (stands_before x (at best)) 1 0) (is_at k c here) ∙ ap (λ t. cond t 1 0) (none_before k here) in
        omega (arith, none)) in
        omega (arith, few)

    abbrev is_top : Scored → Bool
    is_top c = standing scored c == 0

    top_is_best : (k : ℕ) (c : Scored) → k < length candidates → is_top (get_or scored k c) ≡ true → k ≡ best
    top_is_best k c lt top =
        let none : standing scored (get_or scored k c) ≡ 0 = eqb-true _ 0 top in
        let term = get_or-le-sum_by (λ other. cond (stands_before other (get_or scored k c)) 1 0) scored best c (omega (arith, within, as_many)) in
        let fails : stands_before (get_or scored best c) (get_or scored k c) ≡ false = none_or_one _ (omega (arith, none, term)) in
        only_best k lt ((λ i. stands_before (sym (is_at best c within) i) (sym (is_at k c lt) i)) ∙ fails)

    abbrev tops : List Scored
    tops = filter is_top scored

    tops_are_best : All (λ c. c.dialect ≡ get_or candidates best d) tops
    tops_are_best k c lt =
        All-filter is_top (λ x. is_top x ≡ true → x.dialect ≡ get_or candidates best d) scored
        (λ j x inside top. let here : j < length candidates = omega (arith, inside, as_many) in
        ap (λ (s : Scored). s.dialect) (is_at j x here) ∙ ap (λ n. get_or candidates n d) (top_is_best j x here top))
        k c lt (filter_passes is_top scored k c lt)

    some_top : 0 < length tops
    some_top =
        let passes : is_top (get_or scored best (at best)) ≡ true = ap is_top (is_at best (at best) within) ∙ ap (λ n. n == 0) standing_best in
        let counted : cond {A = ℕ} (is_top (get_or scored best (at best))) 1 0 ≡ 1 = ap (λ t. cond t 1 0) passes in
        let term = get_or-le-sum_by (λ c. cond (is_top c) 1 0) scored best (at best) (omega (arith, within, as_many)) in
        omega (arith, counted, term, length-filter is_top scored)

    pub first_in_order : option_map (λ (c : Scored). c.dialect) (slice_get (in_rank_order scored) 0) ≡ Some (get_or candidates best d)
    first_in_order =
        ap (option_map (λ (c : Scored). c.dialect)) (first_of_all (λ better. filter (λ c. standing scored c == better) scored) (length scored) (at best) (omega (arith, some, as_many)) some_top)
        ∙ ap Some (tops_are_best 0 (at best) some_top)

pub first_candidate_is_found : FirstCandidateIsFound
first_candidate_is_found o sample whole accepted = first_in_order sample whole o.sample_size (candidates_of o) (with_delim None 44 no_quote) (some_candidates o accepted)
