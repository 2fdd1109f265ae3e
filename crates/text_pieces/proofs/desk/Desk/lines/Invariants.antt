use Rattle.std.proofs.Common.{take}
use Rattle.std.specs.Prelude.{All}
use Rattle.text_pieces.specs.Blocks.{IsMadeOf}
use Rattle.text_pieces.proofs.desk.Desk.lines.Given as goal

-- none of the blocks so far has the lines
abbrev pub invariant-loop-block : goal.invariant-loop-block
invariant-loop-block l = All (λ block. ¬ IsMadeOf l.from l.to block) (take l.block-index l.block-items)
