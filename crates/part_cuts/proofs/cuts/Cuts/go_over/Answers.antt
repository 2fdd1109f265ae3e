use Rattle.std.proofs.Common.{◌≡◌, ◌+◌, ◌≤◌, ◌∙◌, ap, length, arith}
use Rattle.byte_classes.proofs.LineEndLaws.{line_ends-le}
use Rattle.part_cuts.specs.Passed.{passed}
use Rattle.part_cuts.specs.Reading.{Reading}
use Rattle.part_cuts.proofs.PlaceOrder.{ascends_on}
use Rattle.part_cuts.proofs.cuts.Cuts.go_over.Goals as goal

pub overflow_add-self-2 : goal.overflow_add-self-2
overflow_add-self-2 c =
    let ends = line_ends-le c.self.inside.before c.args.bytes.now in
    let place : c.self.inside.tally.bytes ≡ c.args.self.now.tally.bytes = ap (λ (r : Reading). r.tally.bytes) c.self.view_is in
    omega (arith, c.count_line_ends.ensures, ends, c.self.invariant.1.lines, place, c.requires.within)

pub invariant_of-self : goal.invariant_of-self
invariant_of-self c =
    let r = c.self.inside in
    let ends = line_ends-le r.before c.args.bytes.now in
    let place : r.tally.bytes ≡ c.args.self.now.tally.bytes = ap (λ (q : Reading). q.tally.bytes) c.self.view_is in
    let bytes : r.tally.bytes ≤ r.tally.bytes + length c.args.bytes.now = omega arith in
    let lines : r.tally.lines ≤ r.tally.lines + c.count_line_ends.result = omega arith in
    let rows : r.tally.rows ≤ r.tally.rows + c.count_rows-counted.result.rows = omega arith in (
      c.self.invariant.0,
      record {
        bytes = omega (arith, place, c.requires.within);
        lines = omega (arith, c.count_line_ends.ensures, ends, c.self.invariant.1.lines);
        rows = omega (arith, c.count_rows-counted.ensures.few, c.self.invariant.1.rows);
      },
      ascends_on r.starts.items r.tally _ c.self.invariant.2 (record { bytes = bytes; lines = lines; rows = rows }),
    )

pub returns : goal.returns
returns c =
    let r = c.self.inside in
    let bytes = c.args.bytes.now in
    let counted : record {
      rule = r.rule;
      state = c.count_rows-counted.result.state;
      before = c.last_byte-self-inside.result;
      tally = record { bytes = r.tally.bytes + length bytes; lines = r.tally.lines + c.count_line_ends.result; rows = r.tally.rows + c.count_rows-counted.result.rows };
      due = r.due;
      starts = r.starts.items;
    } ≡ passed (record { rule = r.rule; state = r.state; before = r.before; tally = r.tally; due = r.due; starts = r.starts.items }) bytes =
    λ i. record {
      rule = r.rule;
      state = c.count_rows-counted.ensures.state i;
      before = c.last_byte-self-inside.ensures i;
      tally = record { bytes = r.tally.bytes + length bytes; lines = r.tally.lines + c.count_line_ends.ensures i; rows = r.tally.rows + c.count_rows-counted.ensures.rows i };
      due = r.due;
      starts = r.starts.items;
    } in
    counted ∙ ap (λ q. passed q bytes) c.self.view_is
