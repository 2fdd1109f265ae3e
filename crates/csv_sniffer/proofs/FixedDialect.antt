-- The dialect that was found stands alone where it is given, so it is found in each sample.
use Rattle.std.proofs.Common.{◌≡◌, ℕ, ◌<◌, Bool, List, [], ◌∷◌, length, map, get_or, Option, None, ap, ◌∙◌, arith}
use Rattle.std.proofs.lemmas.List.{length-map}
use Rattle.byte_classes.specs.Dialect.{Marks}
use Rattle.value_types.specs.declared.types.ColumnType.{ColumnType}
use Rattle.load_options.specs.declared.options.Options.{Options}
use Rattle.load_options.specs.Accepted.{IsAccepted}
use Rattle.dialect_rank.specs.Candidates.{candidates_of, with_delim, no_quote, with_dialect}
use Rattle.dialect_rank.specs.Rank.{best_place}
use Rattle.dialect_rank.specs.declared.scores.Score.{Score}
use Rattle.dialect_rank.specs.Score.{score_of}
use Rattle.dialect_rank.proofs.GivenDialect.{given_stands_alone}
use Rattle.dialect_rank.proofs.RankLaws.{alone_is_best, best_is_first_highest}
use Rattle.dialect_rank.proofs.SomeCandidate.{some_candidates}
use Rattle.csv_sniffer.specs.Sniffed.{chosen_dialect}

abbrev default : Marks
default = with_delim None 44 no_quote

module _ (o : Options) (sample : List ℕ) (whole : Bool) (accepted : IsAccepted o) where
  abbrev score : Marks → Score
  score d = score_of d sample whole o.sample_size

  abbrev dialect : Marks
  dialect = chosen_dialect o sample whole

  -- the dialect is one of the candidates
  pub chosen_within : best_place (map score (candidates_of o)) < length (candidates_of o)
  chosen_within =
      let many : length (map score (candidates_of o)) ≡ length (candidates_of o) = length-map (candidates_of o) score in
      let some : 0 < length (candidates_of o) = some_candidates o accepted in
      let law = best_is_first_highest (map score (candidates_of o)) (omega (arith, many, some)) in
      omega (arith, law.within, many)

  -- it is found again, in this sample and in each other one
  pub chosen_again : (p : Option Bool) (tys : List ColumnType) (other : List ℕ) (all : Bool) → chosen_dialect (record (with_dialect o dialect) { header = p; types = tys }) other all ≡ dialect
  chosen_again p tys other all =
      let rank : Marks → Score = λ d. score_of d other all o.sample_size in
      let one : candidates_of (with_dialect o dialect) ≡ dialect ∷ [] = given_stands_alone o (best_place (map score (candidates_of o))) default chosen_within in
      ap (λ ds. get_or ds (best_place (map rank ds)) default) one
      ∙ ap (λ n. get_or (dialect ∷ []) n default) (alone_is_best (rank dialect))
