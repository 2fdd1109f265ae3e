use Rattle.std.proofs.Common.{sym, subst, arith}
use Rattle.std.specs.Prelude.{All}
use Rattle.value_types.specs.Spelled.{IsSpelledCell}
use Rattle.column_profile.specs.Kept.{tally_in, HasSpelledSpan}
use Rattle.column_profile.specs.Parts.{part_rows}
use Rattle.column_profile.specs.Profile.{cells_in}
use Rattle.column_profile.proofs.PartSteps.{cells_spelled}
use Rattle.column_profile.proofs.TallySteps.{stays_spelled, tally_more}
use Rattle.column_profile.proofs.column.Column.take_parts.Goals as goal

pub loop-part-preserved : goal.loop-part-preserved
loop-part-preserved c =
    let parts = c.args.parts.now in
    let k = c.loop-part.part-index in
    let part = c.part-item.result in
    let number = c.args.number in
    let now = tally_in c.loop-part.self in
    let new = tally_in c.take_part.new.self in
    let told = c.in_ok-take_part.ensures.ok in
    let spelled : All IsSpelledCell (cells_in number (part_rows part)) = cells_spelled part_rows parts k number part (omega arith) c.part-item.is c.requires.writable in record {
      tally = tally_more part_rows parts k number part (tally_in c.args.self.now) now new (omega arith) c.part-item.is c.loop-part.invariant.tally told;
      spelled = subst HasSpelledSpan (sym told) (stays_spelled now (cells_in number (part_rows part)) spelled c.loop-part.invariant.spelled);
    }
