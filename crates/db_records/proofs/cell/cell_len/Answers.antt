use Rattle.std.proofs.Common.{◌++◌, length, arith, length-append}
use Rattle.db_records.specs.Varint.{varint}
use Rattle.db_records.proofs.cell.cell_len.Goals as goal

pub returns : goal.returns
returns c = record {
  value = omega (arith, c.cell_head_len.ensures.value, length-append (varint (length c.args.row.now)) (varint c.args.rowid ++ c.args.row.now), length-append (varint c.args.rowid) c.args.row.now);
  within = omega (arith, c.cell_head_len.ensures.within);
}
