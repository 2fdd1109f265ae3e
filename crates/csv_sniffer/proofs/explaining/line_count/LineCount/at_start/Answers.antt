use Rattle.std.proofs.Common.{arith}
use Rattle.std.specs.Prelude.{None}
use Rattle.byte_classes.proofs.LineEndLaws.{line_ends-le}
use Rattle.csv_sniffer.proofs.explaining.line_count.LineCount.at_start.Goals as goal

pub overflow_add-result : goal.overflow_add-result
overflow_add-result c = grind (arith, line_ends-le None c.args.front.now, c.count_line_ends.ensures)
