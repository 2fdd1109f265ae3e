use Rattle.std.proofs.Common.{◌≡◌, ◌++◌}
use Rattle.std.specs.Prelude.{flat_map, slice_range}
use Rattle.report_text.specs.Lines.{row_line}
use Rattle.report_text.proofs.rows.push_part.Given as goal

abbrev pub invariant-loop-row : goal.invariant-loop-row
invariant-loop-row l = l.into.text ≡ l.fn.into.text ++ flat_map row_line (slice_range l.chunk.rows l.first l.row)
