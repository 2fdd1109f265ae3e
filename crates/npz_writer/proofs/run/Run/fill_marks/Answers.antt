use Rattle.std.proofs.Common.{◌∙◌, ◌-◌, ap, map, false, get_or, refl, arith}
use Rattle.std.specs.List.{range_with_len}
use Rattle.value_types.specs.Views.{nulls_in, view_cells}
use Rattle.npz_writer.specs.declared.part.Part.TheVariants as parts
use Rattle.npz_writer.specs.Arrays.{truth_byte}
use Rattle.npz_writer.proofs.Parts.{marks_are, null_at}
use Rattle.npz_writer.proofs.Runs.{filled}
use Rattle.npz_writer.proofs.ViewLengths.{cells_of_rows}
use Rattle.npz_writer.proofs.run.Run.fill_marks.Goals as goal

pub returns : goal.returns
returns c =
    let old = c.args.self.now in
    let none = c.requires.run.pending refl in
    filled parts.Nulls old _ _ _ c.requires.run refl refl c.reach-to.ensures.more c.reach-to.ensures.within none none (omega (arith, c.reach-to.ensures.fit, c.requires.room))
    (c.put_marks.ensures ∙ ap (λ nulls. map (λ row. truth_byte (get_or nulls row false)) (range_with_len old.row (c.reach-to.result - old.row))) c.nulls.ensures
    ∙ marks_are (view_cells old.view) (nulls_in old.view) old.row c.reach-to.result (omega (arith, c.reach-to.ensures.more))
    (omega (arith, c.reach-to.ensures.within, cells_of_rows old.rows old.view c.requires.run.long))
    (λ row below. null_at old.view old.rows row c.requires.run.long (omega (arith, below, c.reach-to.ensures.within))))
    (λ later. refl)
