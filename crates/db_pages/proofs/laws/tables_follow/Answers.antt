use Rattle.db_pages.proofs.TablesFollow.{tables-follow}
use Rattle.db_pages.proofs.laws.tables_follow.Goals as goal

pub returns : goal.returns
returns c = λ tables table. tables-follow tables table
