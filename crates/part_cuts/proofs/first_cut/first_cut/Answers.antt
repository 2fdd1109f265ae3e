use Rattle.std.proofs.Common.{◌∙◌, sym, ap, arith, refl}
use Rattle.std.proofs.lemmas.List.{take_rest}
use Rattle.part_cuts.specs.Cut.{is_cut}
use Rattle.part_cuts.proofs.NoCutLaws.{no_cut_step}
use Rattle.part_cuts.proofs.first_cut.first_cut.Goals as goal

pub loop-at-init : goal.loop-at-init
loop-at-init c = record { high = omega arith; none = tt; state = refl }

pub loop-at-preserved : goal.loop-at-preserved
loop-at-preserved c =
    let d = c.args.dialect.now in
    let bytes = c.args.bytes.now in
    let at = c.loop-at.at in
    let next = no_cut_step d c.args.state c.loop-at.state bytes at (omega (arith, c.loop-at-test.true, c.requires.within)) c.loop-at.invariant.state c.loop-at.invariant.none
    (ap (is_cut d c.loop-at.state) (sym (take_rest bytes at)) ∙ (sym c.is_cut.ensures ∙ c.if-is_cut.false)) in
    record { high = omega (arith, c.loop-at-test.true); none = next.0; state = c.step-state.ensures ∙ next.1 }
