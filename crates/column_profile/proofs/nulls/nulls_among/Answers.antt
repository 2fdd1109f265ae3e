use Rattle.std.proofs.Common.{Bool, ap, take, ◌∙◌}
use Rattle.std.specs.Prelude.{count_by}
use Rattle.column_profile.proofs.MarkSteps.{nulls_by_marks}
use Rattle.column_profile.proofs.nulls.nulls_among.Goals as goal

pub returns : goal.returns
returns c =
    c.set_among.ensures ∙ ap (λ marks. count_by (λ (mark : Bool). mark) (take c.args.rows marks)) c.nulls.ensures
    ∙ nulls_by_marks c.args.rows c.args.column.now c.requires
