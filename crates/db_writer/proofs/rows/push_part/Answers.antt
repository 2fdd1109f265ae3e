use Rattle.std.proofs.Common.{◌∙◌, arith}
use Rattle.db_writer.proofs.RowsLaid.{row-appended}
use Rattle.db_writer.proofs.rows.push_part.Goals as goal

pub loop-row-preserved : goal.loop-row-preserved
loop-row-preserved c =
    row-appended c.args.writer.now c.make_room.new.self c.push_row.new.writer c.args.chunk.now.rows c.min-first.result c.loop-row.row
    (omega arith) (omega arith) (c.make_room.ensures ∙ c.loop-row.invariant) c.in_ok-push_row.ensures.ok
