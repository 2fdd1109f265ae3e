use Rattle.std.proofs.Common.{refl, arith}
use Rattle.std.specs.Prelude.{slice_range}
use Rattle.value_types.specs.Views.{view_cells}
use Rattle.npz_writer.specs.declared.part.Part.TheVariants as parts
use Rattle.npz_writer.specs.Blocks.{end_of}
use Rattle.npz_writer.proofs.Parts.{ends_wrapped}
use Rattle.npz_writer.proofs.Runs.{filled}
use Rattle.npz_writer.proofs.run.Run.fill_ends.Goals as goal

pub returns : goal.returns
returns c =
    let old = c.args.self.now in
    let none = c.requires.run.pending refl in
    filled parts.Ends old _ _ _ c.requires.run refl refl c.reach-to.ensures.more c.reach-to.ensures.within none none (omega (arith, c.reach-to.ensures.fit, c.requires.room)) c.put_ends-self.ensures.ends
    (λ later. ends_wrapped c.put_ends-self.result (end_of old.begin (slice_range (view_cells old.view) old.row c.reach-to.result)) later c.put_ends-self.ensures.last)
