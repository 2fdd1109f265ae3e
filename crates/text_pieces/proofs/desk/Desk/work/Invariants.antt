use Rattle.std.proofs.Common.{◌-◌, length}
use Rattle.text_pieces.specs.Blocks.{HasWork, IsDrawn}
use Rattle.text_pieces.proofs.desk.Desk.work.Given as goal

-- the blocks so far have the lines of rows that were drawn
abbrev pub invariant-loop-self : goal.invariant-loop-self
invariant-loop-self g l = HasWork (g.T.RowLines.lines l.rows) l.self × IsDrawn l.round l.self

abbrev pub decreases-loop-self : goal.decreases-loop-self
decreases-loop-self g l = length l.self.blocks.items - l.self.used
