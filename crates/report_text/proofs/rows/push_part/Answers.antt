use Rattle.std.proofs.Common.{◌++◌, [], ap, ◌∙◌, arith}
use Rattle.std.specs.Prelude.{flat_map}
use Rattle.report_text.specs.Lines.{row_line}
use Rattle.text_pieces.proofs.Ranges.{range-cut}
use Rattle.text_pieces.proofs.RowTexts.{line_appended}
use Rattle.report_text.proofs.rows.push_part.Goals as goal

pub loop-row-preserved : goal.loop-row-preserved
loop-row-preserved c =
    line_appended row_line c.args.chunk.now.rows [] c.min-first.result c.loop-row.row c.args.into.now.text c.reserve.new.self.text c.push_row.new.into.text
    (omega arith) (omega arith) (c.reserve.ensures ∙ c.loop-row.invariant) c.in_ok-push_row.ensures

pub returns : goal.returns
returns c =
    let rows = c.args.chunk.now.rows in
    c.loop-row.invariant
    ∙ ap (λ rs. c.args.into.now.text ++ flat_map row_line rs)
    (range-cut rows c.args.from c.args.to c.min-first.result c.loop-row.row c.requires.ordered (omega arith) (omega arith))
