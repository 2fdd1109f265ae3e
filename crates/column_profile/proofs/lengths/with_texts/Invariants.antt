use Rattle.std.proofs.Common.{◌≡◌, take}
use Rattle.std.specs.List.{fold}
use Rattle.value_types.specs.Datum.{text}
use Rattle.value_types.specs.Marked.{marked}
use Rattle.column_profile.specs.Tally.{lengths_with}
use Rattle.column_profile.proofs.lengths.with_texts.Given as goal

-- the texts so far are taken in
abbrev pub invariant-loop-row : goal.invariant-loop-row
invariant-loop-row l = l.lengths ≡ fold lengths_with l.fn.lengths (take l.row (marked text l.nulls l.texts))
