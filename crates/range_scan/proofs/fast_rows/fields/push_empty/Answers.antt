use Rattle.std.proofs.Common.{◌<◌, arith, length, rules}
use Rattle.value_types.specs.Datum.{null}
use Rattle.range_scan.proofs.PlainFields.{empty_field}
use Rattle.range_scan.proofs.fast_rows.fields.push_empty.Goals as goal

pub returns-clause-at : goal.returns-clause-at
returns-clause-at c = λ ty.
    let high : c.args.from < length c.args.bytes.now = omega (arith, c.requires.within, c.if-from-bytes.false) in
    record {
      low = omega arith;
      high = high;
      cell = null;
      pushed = c.in_ok-push_cell.ensures.ok;
      is = empty_field c.args.context.now ty c.args.bytes.now c.args.from high (search rules);
      ascii = λ other k low lt. absurd (let n : ⊥ = omega (arith, low, lt) in n);
    }
