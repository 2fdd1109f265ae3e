use Rattle.std.proofs.Common.{◌≡◌, ◌++◌, drop}
use Rattle.report_text.specs.Lines.{column_lines_from}
use Rattle.report_text.proofs.found.push_columns.Given as goal

-- with the rest the text is that of all columns
abbrev pub invariant-loop-column : goal.invariant-loop-column
invariant-loop-column l =
    l.into.text ++ column_lines_from l.column (drop l.column l.sniffed.types) (drop l.column l.sniffed.names)
    ≡ l.fn.into.text ++ column_lines_from 0 l.sniffed.types l.sniffed.names
