use Rattle.std.proofs.Common.{◌≡◌, ◌≤◌, ◌+◌, length, arith}
use Rattle.csv_sniffer.specs.Entries.{line_at}
use Rattle.csv_sniffer.proofs.LineCounts.{line_at-le, line_counted}
use Rattle.csv_sniffer.proofs.explaining.line_count.LineCount.counted_to.Goals as goal

pub overflow_add-result : goal.overflow_add-result
overflow_add-result c =
    let counted : c.args.self.line + c.count_line_ends.result ≡ line_at c.args.front.now c.args.sample.now c.args.place =
    line_counted c.args.front.now c.args.sample.now c.args.self.at c.args.place c.args.self.line c.count_line_ends.result c.or-before.result c.byte_before.result c.last_of.result
    c.requires.ordered c.requires.counted.here c.count_line_ends.ensures c.or-before.ensures c.byte_before.ensures c.last_of.ensures in
    let fits : c.args.self.line + c.count_line_ends.result ≤ 1 + length c.args.front.now + length c.args.sample.now =
    omega (arith, counted, line_at-le c.args.front.now c.args.sample.now c.args.place) in
    grind (arith, fits)

pub returns : goal.returns
returns c =
    let counted : c.args.self.line + c.count_line_ends.result ≡ line_at c.args.front.now c.args.sample.now c.args.place =
    line_counted c.args.front.now c.args.sample.now c.args.self.at c.args.place c.args.self.line c.count_line_ends.result c.or-before.result c.byte_before.result c.last_of.result
    c.requires.ordered c.requires.counted.here c.count_line_ends.ensures c.or-before.ensures c.byte_before.ensures c.last_of.ensures in
    λ i. record { at = c.args.place; line = counted i }
