use Rattle.std.proofs.Common.{◌≡◌, ◌++◌, map, take, drop}
use Rattle.reject_book.specs.Kept.{raised}
use Rattle.reject_book.proofs.raising.raise_lines.Given as goal

-- the lines before the place are raised
abbrev pub invariant-loop-reject : goal.invariant-loop-reject
invariant-loop-reject l = l.rejects ≡ map (raised l.lines) (take l.reject-index l.initial.rejects) ++ drop l.reject-index l.initial.rejects
