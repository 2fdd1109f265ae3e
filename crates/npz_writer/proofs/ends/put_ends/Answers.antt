use Rattle.std.proofs.Common.{◌≡◌, Some, get_or, arith}
use Rattle.std.specs.Prelude.{slice_get}
use Rattle.std.proofs.lemmas.Option.{slice_get-get_or}
use Rattle.value_types.specs.Datum.{Datum, null}
use Rattle.value_types.specs.Views.{view_cells}
use Rattle.npz_writer.proofs.Stored.{end_stored, one_end}
use Rattle.npz_writer.proofs.ViewLengths.{cells_of_rows}
use Rattle.npz_writer.proofs.ends.put_ends.Goals as goal

pub loop-row-preserved : goal.loop-row-preserved
loop-row-preserved c =
    let cells = view_cells c.args.view.now in
    let row = c.loop-row.row in
    let cell : Datum = get_or cells row null in
    let there : slice_get cells row ≡ Some cell = slice_get-get_or cells row null (omega (arith, c.loop-row-test.true, cells_of_rows c.args.to c.args.view.now c.requires.within)) in
    let before = c.loop-row.invariant in
    record {
      ends = end_stored cells c.args.from row cell (omega arith) there c.args.begin c.loop-row.end c.text_length.result before.last c.text_length.ensures c.loop-row.block c.store.new.block c.place_bytes-bytes.result
          c.place_bytes-bytes.ensures before.ends c.store.ensures;
      last = one_end cells c.args.from row cell (omega arith) there c.args.begin c.loop-row.end c.text_length.result before.last c.text_length.ensures;
    }
