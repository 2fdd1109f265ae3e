use Rattle.db_pages.proofs.GroupsJoin.{groups-join}
use Rattle.db_pages.proofs.laws.groups_join.Goals as goal

pub returns : goal.returns
returns c = λ base first from rows more ends holds. groups-join base first from rows more ends holds
