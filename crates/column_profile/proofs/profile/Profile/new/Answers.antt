use Rattle.std.proofs.Common.{length, ap, sym, ◌∙◌}
use Rattle.column_profile.proofs.ProfileSteps.{begins, begins_long, begins_spelled}
use Rattle.column_profile.proofs.profile.Profile.new.Goals as goal

pub invariant_of-result : goal.invariant_of-result
invariant_of-result c =
    let count = c.len.ensures ∙ ap length (sym c.in_ok-copy_of.ensures) in
    let are = c.in_ok-empty_columns.ensures in
    (begins_long c.in_ok-empty_columns.field-0.items c.len.result are ∙ count, begins_spelled c.in_ok-empty_columns.field-0.items c.len.result are)

pub returns : goal.returns
returns c = begins c.in_ok-copy_of.field-0 c.args.types.now c.in_ok-empty_columns.field-0.items c.len.result c.in_ok-copy_of.ensures c.len.ensures c.in_ok-empty_columns.ensures
