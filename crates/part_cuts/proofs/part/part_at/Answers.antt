use Rattle.std.proofs.Common.{◌∙◌, sym, ap, subst, arith, get_or}
use Rattle.std.specs.Prelude.{Some}
use Rattle.part_cuts.specs.declared.tally.Tally.{Tally}
use Rattle.part_cuts.specs.Part.{part_between}
use Rattle.part_cuts.specs.Within.{IsBefore}
use Rattle.part_cuts.proofs.PlaceOrder.{ascends_next, part_at, start_before_end}
use Rattle.part_cuts.proofs.part.part_at.Goals as goal

abbrev zero_place : Tally
zero_place = record { bytes = 0; lines = 0; rows = 0 }

pub overflow_sub-result : goal.overflow_sub-result
overflow_sub-result c =
    let start = get_or c.args.starts.now c.args.number zero_place in
    (subst (IsBefore start) (sym c.place_behind-next.ensures) (ascends_next c.args.starts.now c.args.end c.args.number zero_place c.requires.ordered c.requires.within)).bytes

pub overflow_sub-result-2 : goal.overflow_sub-result-2
overflow_sub-result-2 c =
    let start = get_or c.args.starts.now c.args.number zero_place in
    (subst (IsBefore start) (sym c.place_behind-next.ensures) (ascends_next c.args.starts.now c.args.end c.args.number zero_place c.requires.ordered c.requires.within)).rows

pub overflow_add-result : goal.overflow_add-result
overflow_add-result c =
    let before = start_before_end c.args.starts.now c.args.end c.args.number zero_place c.requires.ordered c.requires.within in
    omega (arith, before.lines, c.requires.fits)

pub returns : goal.returns
returns c =
    part_at c.args.starts.now c.args.end c.args.number zero_place c.requires.within
    ∙ ap (λ t. Some (part_between (get_or c.args.starts.now c.args.number zero_place) t)) (sym c.place_behind-next.ensures)
