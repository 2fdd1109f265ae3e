use Rattle.std.proofs.Common.{arith}
use Rattle.column_store.proofs.Filled.{rows_seen}
use Rattle.column_store.proofs.chunk.Chunk.finish_row.Goals as goal

pub count_row-requires-clause-room : goal.count_row-requires-clause-room
count_row-requires-clause-room c = omega (arith, rows_seen c.self.invariant c.self.view_is, c.if-self.false)
