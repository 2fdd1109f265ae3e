use Rattle.db_records.proofs.Serials.{size_at}
use Rattle.db_records.proofs.values.int_size.Goals as goal

pub returns : goal.returns
returns c = size_at c.args.serial c.requires
