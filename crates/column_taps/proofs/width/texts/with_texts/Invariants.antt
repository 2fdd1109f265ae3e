use Rattle.std.proofs.Common.{◌≡◌, take}
use Rattle.std.specs.List.{fold}
use Rattle.value_types.specs.Datum.{text}
use Rattle.value_types.specs.Marked.{marked}
use Rattle.column_taps.specs.Seen.{width_with}
use Rattle.column_taps.proofs.width.texts.with_texts.Given as goal

-- the texts so far are taken in
abbrev pub invariant-loop-row : goal.invariant-loop-row
invariant-loop-row l = l.width ≡ fold width_with l.fn.width (take l.row (marked text l.nulls l.texts))
