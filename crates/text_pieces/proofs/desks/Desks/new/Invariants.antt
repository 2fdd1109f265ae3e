use Rattle.std.specs.Prelude.{All}
use Rattle.text_pieces.specs.Blocks.{IsIdle}
use Rattle.text_pieces.proofs.desks.Desks.new.Given as goal

abbrev pub invariant-loop : goal.invariant-loop
invariant-loop l = All IsIdle l.others.items
