use Rattle.std.proofs.Common.{◌∙◌, ap, length, refl, arith}
use Rattle.std.proofs.lemmas.List.{length-map}
use Rattle.value_types.specs.Views.{view_cells}
use Rattle.column_store.specs.ViewTypes.{type_of_view}
use Rattle.npz_writer.specs.declared.part.Part.TheVariants as parts
use Rattle.npz_writer.specs.Arrays.{cell_bytes, number_bytes}
use Rattle.npz_writer.specs.Blocks.{numbers_of, written_numbers}
use Rattle.npz_writer.proofs.Parts.{bytes_of_slices}
use Rattle.npz_writer.proofs.Runs.{filled}
use Rattle.npz_writer.proofs.Unmarked.{length-unmarked}
use Rattle.npz_writer.proofs.ViewLengths.{cells_of_rows}
use Rattle.npz_writer.proofs.run.Run.fill_numbers.Goals as goal

pub put-requires-clause-within : goal.put-requires-clause-within
put-requires-clause-within c =
    let old = c.args.self.now in
    let column = c.args.column.now in
    omega (
      arith,
      c.reach-to.ensures.within,
      cells_of_rows old.rows old.view c.requires.run.long,
      ap length c.requires.column,
      length-map (view_cells old.view) (cell_bytes (type_of_view old.view)),
      length-map (written_numbers column) number_bytes,
      length-unmarked column.null column.nulls.now (numbers_of column.numbers),
    )

pub returns : goal.returns
returns c =
    let old = c.args.self.now in
    filled parts.Values old _ _ _ c.requires.run refl refl c.reach-to.ensures.more c.reach-to.ensures.within c.requires.pending c.requires.pending (omega (arith, c.reach-to.ensures.fit, c.requires.room))
    (c.put.ensures ∙ bytes_of_slices (cell_bytes (type_of_view old.view)) number_bytes (view_cells old.view) (written_numbers c.args.column.now) old.row c.reach-to.result c.requires.column)
    (λ later. refl)
