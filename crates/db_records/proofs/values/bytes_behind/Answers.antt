use Rattle.db_records.proofs.Serials.{behind_below, behind_most, behind_reached}
use Rattle.db_records.proofs.values.bytes_behind.Goals as goal

pub returns : goal.returns
returns c = record {
  below = behind_below c.args.steps c.requires;
  reached = behind_reached c.args.steps c.requires;
  most = behind_most c.args.steps c.requires;
}
