use Rattle.std.proofs.Common.{arith}
use Rattle.db_records.proofs.Varints.{varint-size, digits-few}
use Rattle.db_records.proofs.varint.varint_len.Goals as goal

pub returns : goal.returns
returns c = record {
  value = omega (arith, c.digits_before.ensures, varint-size c.args.value);
  within = omega (arith, c.digits_before.ensures, digits-few c.args.value);
}
