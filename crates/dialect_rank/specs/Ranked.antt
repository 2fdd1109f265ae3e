-- A dialect with its score, and the higher of two.
use Rattle.std.specs.Prelude.{ℕ, Bool, List, if◌then◌else◌}
use Rattle.byte_classes.specs.Dialect.{Marks}
use Rattle.dialect_rank.specs.declared.ranked.Ranked.{Ranked}
use Rattle.dialect_rank.specs.Rank.{is_above}
use Rattle.dialect_rank.specs.Sampled.{sampled_spans}
use Rattle.dialect_rank.specs.Score.{score_of}

abbrev pub ranked_of : Marks → List ℕ → Bool → ℕ → Ranked
ranked_of d sample whole sample_size = record {
  dialect = d;
  score = score_of d sample whole sample_size;
  spans = sampled_spans d sample whole sample_size;
}

-- the one with the higher score, the first of equals
abbrev pub higher : Ranked → Ranked → Ranked
higher first second = if is_above second.score first.score then second else first
