use Rattle.std.proofs.Common.{◌∙◌, [], ◌∷◌, Bool, false, List, ℕ, ap, length, refl, sym, arith}
use Rattle.std.specs.Prelude.{slice_range}
use Rattle.std.proofs.lemmas.List.{length-map}
use Rattle.std.proofs.lemmas.List.Concat.{flat_map_single}
use Rattle.value_types.specs.Views.{view_cells}
use Rattle.column_store.specs.ViewTypes.{type_of_view}
use Rattle.npz_writer.specs.declared.part.Part.TheVariants as parts
use Rattle.npz_writer.specs.Arrays.{cell_bytes, truth_byte}
use Rattle.npz_writer.specs.Blocks.{unmarked}
use Rattle.npz_writer.proofs.Parts.{bytes_of_slices}
use Rattle.npz_writer.proofs.Runs.{filled}
use Rattle.npz_writer.proofs.Unmarked.{length-unmarked}
use Rattle.npz_writer.proofs.ViewLengths.{cells_of_rows}
use Rattle.npz_writer.proofs.run.Run.fill_truths.Goals as goal

abbrev one_byte : Bool → List ℕ
one_byte truth = truth_byte truth ∷ []

pub put_truths-requires-clause-within : goal.put_truths-requires-clause-within
put_truths-requires-clause-within c =
    let old = c.args.self.now in
    let truths : List Bool = unmarked false c.args.nulls.now c.args.truths.now in
    omega (
      arith,
      c.reach-to.ensures.within,
      cells_of_rows old.rows old.view c.requires.run.long,
      ap length c.requires.column,
      length-map (view_cells old.view) (cell_bytes (type_of_view old.view)),
      length-map truths one_byte,
      length-unmarked false c.args.nulls.now c.args.truths.now,
    )

pub returns : goal.returns
returns c =
    let old = c.args.self.now in
    let truths : List Bool = unmarked false c.args.nulls.now c.args.truths.now in
    filled parts.Values old _ _ _ c.requires.run refl refl c.reach-to.ensures.more c.reach-to.ensures.within c.requires.pending c.requires.pending (omega (arith, c.reach-to.ensures.fit, c.requires.room))
    (c.put_truths.ensures ∙ sym (flat_map_single truth_byte (slice_range truths old.row c.reach-to.result))
    ∙ bytes_of_slices (cell_bytes (type_of_view old.view)) one_byte (view_cells old.view) truths old.row c.reach-to.result c.requires.column)
    (λ later. refl)
