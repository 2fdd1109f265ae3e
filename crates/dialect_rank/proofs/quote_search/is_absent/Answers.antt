use Rattle.dialect_rank.proofs.QuoteSearch.{absent-is}
use Rattle.dialect_rank.proofs.quote_search.is_absent.Goals as goal

pub returns : goal.returns
returns c = absent-is c.args.sample.now c.args.byte c.next_byte.result c.next_byte.ensures
