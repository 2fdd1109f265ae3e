use Rattle.std.proofs.Common.{◌≡◌, take}
use Rattle.column_store.proofs.chunk.Chunk.push_cells.Given as goal

abbrev pub invariant-loop-column : goal.invariant-loop-column
invariant-loop-column l =
    l.self ≡ record { types = l.fn.self.types; rows = l.fn.self.rows; unfinished = take l.column l.cells; spare = l.fn.self.spare }
