use Rattle.std.proofs.Common.{◌≡◌, take}
use Rattle.column_profile.specs.Folded.{tally_after}
use Rattle.column_profile.specs.Kept.{tally_in, HasSpelledSpan}
use Rattle.column_profile.specs.Parts.{rows_of}
use Rattle.column_profile.specs.Profile.{cells_in}
use Rattle.column_profile.proofs.column.Column.take_parts.Given as goal

-- the parts so far are taken in
abbrev pub invariant-loop-part : goal.invariant-loop-part
invariant-loop-part l = record {
  tally : tally_in l.self ≡ tally_after (tally_in l.fn.self) (cells_in l.number (rows_of (take l.part-index l.parts)));
  spelled : HasSpelledSpan (tally_in l.self);
}
