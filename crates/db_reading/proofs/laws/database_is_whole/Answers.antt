use Rattle.db_reading.proofs.Databases.{database-whole}
use Rattle.db_reading.proofs.laws.database_is_whole.Goals as goal

pub returns : goal.returns
returns c = database-whole
