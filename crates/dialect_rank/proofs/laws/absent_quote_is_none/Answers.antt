use Rattle.dialect_rank.proofs.AlikeScores.{absent_quote_is_none}
use Rattle.dialect_rank.proofs.laws.absent_quote_is_none.Goals as goal

pub returns : goal.returns
returns c = λ d sample sound none whole size. absent_quote_is_none d sample sound none whole size
