use Rattle.db_records.proofs.Serials.{serial_at}
use Rattle.db_records.proofs.values.width_of.Goals as goal

pub returns : goal.returns
returns c = serial_at c.bytes_behind.result c.args.steps c.bytes_behind.ensures.most c.bytes_behind.ensures.below c.bytes_behind.ensures.reached
