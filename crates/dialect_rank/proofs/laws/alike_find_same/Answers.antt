use Rattle.dialect_rank.proofs.AlikeScores.{alike_find_same}
use Rattle.dialect_rank.proofs.laws.alike_find_same.Goals as goal

pub returns : goal.returns
returns c = λ d e sample sound sound_other alike whole size. alike_find_same d e sample sound sound_other alike whole size
