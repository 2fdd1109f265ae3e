use Rattle.std.proofs.Common.{◌≡◌, ◌++◌, ◌∷◌, [], take, codes}
use Rattle.std.specs.Prelude.{flat_map, slice_index_or}
use Rattle.report_text.specs.Lines.{cell_text}
use Rattle.report_text.proofs.rows.push_row.Given as goal

abbrev pub invariant-loop-column : goal.invariant-loop-column
invariant-loop-column l =
    l.into.text ≡ l.fn.into.text ++ (codes "row" ++ flat_map (λ cell. 124 ∷ cell_text cell) (take l.column (slice_index_or l.chunk.rows l.row [])))
