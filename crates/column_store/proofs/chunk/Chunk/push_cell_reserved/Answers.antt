use Rattle.std.proofs.Common.{arith, length}
use Rattle.value_types.specs.Datum.{datum_of}
use Rattle.column_store.proofs.NextCells.{column_there}
use Rattle.column_store.proofs.NextColumn.{seen_more}
use Rattle.column_store.proofs.chunk.Chunk.push_cell_reserved.Goals as goal

pub returns : goal.returns
returns c =
    let next = column_there c.args.self.now.types (length c.args.self.now.unfinished) (datum_of c.args.cell) c.requires.fits in
    let done = c.push_reserved.ensures in
    seen_more c.self.invariant c.self.view_is next c.index_mut.ensures.value c.push_reserved.new.self done.ty (omega (arith, done.room)) (datum_of c.args.cell) done.value
