use Rattle.std.proofs.Common.{ap, sym, subst, ◌∙◌}
use Rattle.std.proofs.lemmas.Result.{on_ok_weaker}
use Rattle.value_types.specs.declared.views.ColumnView.{ColumnView}
use Rattle.value_types.specs.Views.{HasRows}
use Rattle.column_profile.specs.Folded.{tally_after}
use Rattle.column_profile.specs.Kept.{tally_in}
use Rattle.column_profile.proofs.PartSteps.{cells_viewed}
use Rattle.column_profile.proofs.column.Column.take_part.Goals as goal

has_rows : (c : goal.After-index) → HasRows c.args.part.now.rows c.index.result.now
has_rows c = subst (HasRows c.args.part.now.rows) (sym c.index.ensures) (c.requires.long c.args.number c.index.result.now c.requires.within)

pub take_view-requires : goal.take_view-requires
take_view-requires c = has_rows c

pub returns : goal.returns
returns c =
    let part = c.args.part.now in
    let view : ColumnView = c.index.result.now in
    let long : HasRows part.rows view = subst (HasRows part.rows) (sym c.index.ensures) (c.requires.long c.args.number view c.requires.within) in
    let cells = cells_viewed part.views.items c.args.number part.rows view c.requires.within c.index.ensures long in record {
      ok = on_ok_weaker c.take_view.result (λ told. told ∙ ap (tally_after (tally_in c.args.self.now)) cells) c.take_view.ensures.ok;
      err = c.take_view.ensures.err;
    }
