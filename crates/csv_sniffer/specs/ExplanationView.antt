-- What an explanation holds.
use Rattle.std.specs.Prelude.{Bool, List}
use Rattle.dialect_rank.specs.declared.scored.Scored.{Scored}
use Rattle.csv_sniffer.specs.declared.explaining.hints.Hint.{Hint}
use Rattle.csv_sniffer.specs.declared.explaining.whys.Why.{Why}

-- all candidates, whether the types are among the words that fix what was found, why columns are of no other type, and hints
pub record ExplanationView : Type 0 where
  pub candidates : List Scored
  pub fixes_types : Bool
  pub whys : List Why
  pub hints : List Hint
