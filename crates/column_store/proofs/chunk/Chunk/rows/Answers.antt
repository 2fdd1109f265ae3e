use Rattle.column_store.proofs.Filled.{rows_seen}
use Rattle.column_store.proofs.chunk.Chunk.rows.Goals as goal

pub returns : goal.returns
returns c = rows_seen c.self.invariant c.self.view_is
