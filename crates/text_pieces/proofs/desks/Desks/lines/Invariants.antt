use Rattle.std.proofs.Common.{take}
use Rattle.std.specs.Prelude.{All}
use Rattle.text_pieces.specs.Blocks.{HasNone}
use Rattle.text_pieces.proofs.desks.Desks.lines.Given as goal

-- none of the desks so far has the lines
abbrev pub invariant-loop-desk : goal.invariant-loop-desk
invariant-loop-desk l = All (HasNone l.from l.to) (take l.desk-index l.desk-items)
