use Rattle.db_reading.proofs.Databases.{database-holds}
use Rattle.db_reading.proofs.laws.database_holds_table.Goals as goal

pub returns : goal.returns
returns c = database-holds
