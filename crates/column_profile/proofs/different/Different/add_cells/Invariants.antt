use Rattle.std.proofs.Common.{◌≡◌, Some, take}
use Rattle.std.specs.List.{fold}
use Rattle.value_types.specs.Views.{view_cells}
use Rattle.column_profile.specs.Folded.{kept_with}
use Rattle.column_profile.specs.Kept.{kept_apart}
use Rattle.column_profile.proofs.different.Different.add_cells.Given as goal

-- those of the cells so far are there, and are not too many
abbrev pub invariant-loop-row : goal.invariant-loop-row
invariant-loop-row l = Some (kept_apart l.self) ≡ fold kept_with (Some (kept_apart l.fn.self)) (take l.row (view_cells l.column))
