use Rattle.std.proofs.Common.{◌≡◌, ◌≢◌, List, Option, Some, None, take, refl, sym}
use Rattle.std.specs.List.{fold}
use Rattle.std.specs.Option.{option_map}
use Rattle.value_types.specs.Datum.{Datum}
use Rattle.value_types.specs.Views.{view_cells}
use Rattle.column_profile.specs.declared.different.Different.{Different}
use Rattle.column_profile.specs.Folded.{kept_with}
use Rattle.column_profile.specs.Kept.{kept_apart}
use Rattle.column_profile.proofs.ApartSteps.{none_stays}
use Rattle.column_profile.proofs.column.keep_different.Goals as goal

none_kept : (different : Option Different) → ((kept : Different) → different ≢ Some kept) → (cells : List Datum) → option_map kept_apart different ≡ fold kept_with (option_map kept_apart different) cells
none_kept None none cells = sym (none_stays cells)
none_kept (Some kept) none cells = absurd (none kept refl)

pub returns-in_default : goal.returns-in_default
returns-in_default c = none_kept c.args.different.now c.in_default.not-Some (take c.args.rows (view_cells c.args.view.now))
