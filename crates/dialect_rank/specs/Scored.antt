-- All candidates with their scores, and their order (this loader's profile).
use Rattle.std.specs.Prelude.{ℕ, ◌+◌, ◌==◌, ◌&&◌, ◌||◌, not, nat_lt, Bool, List, [], ◌∷◌, length, filter, flat_map, count_by}
use Rattle.std.specs.List.{range_with_len}
use Rattle.byte_classes.specs.Dialect.{Marks}
use Rattle.load_options.specs.declared.options.Options.{Options}
use Rattle.dialect_rank.specs.declared.scored.Scored.{Scored}
use Rattle.dialect_rank.specs.Candidates.{candidates_of}
use Rattle.dialect_rank.specs.Rank.{is_above}
use Rattle.dialect_rank.specs.Score.{score_of}

-- some candidates with their scores, and with their places from one on
abbrev pub scored_from : List ℕ → Bool → ℕ → ℕ → List Marks → List Scored
scored_from sample whole sample_size place [] = []
scored_from sample whole sample_size place (d ∷ ds) =
    record { place = place; dialect = d; score = score_of d sample whole sample_size } ∷ scored_from sample whole sample_size (place + 1) ds

-- all candidates with their scores, in the order of the list
abbrev pub scored_candidates : Options → List ℕ → Bool → List Scored
scored_candidates o sample whole = scored_from sample whole o.sample_size 0 (candidates_of o)

-- whether a candidate is the better of two: its score is above, or the scores are equal and it is the earlier one
abbrev pub stands_before : Scored → Scored → Bool
stands_before c other = is_above c.score other.score || (not (is_above other.score c.score) && nat_lt c.place other.place)

-- how many of the candidates are better than one of them
abbrev pub standing : List Scored → Scored → ℕ
standing scored c = count_by (λ other. stands_before other c) scored

-- the candidates by how many are better: first the one than which none is
abbrev pub in_rank_order : List Scored → List Scored
in_rank_order scored = flat_map (λ better. filter (λ c. standing scored c == better) scored) (range_with_len 0 (length scored))
