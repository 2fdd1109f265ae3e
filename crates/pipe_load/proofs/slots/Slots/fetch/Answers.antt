use Rattle.std.proofs.Common.{◌≡◌, ◌∙◌, sym, ap, subst, arith, ◌++◌, List}
use Rattle.crossbeam_queue.specs.Passes.{view}
use Rattle.pipe_load.specs.declared.window.Window.{Window}
use Rattle.std.specs.Prelude.{None}
use Rattle.pipe_load.specs.Slots.{HasPut, slot_of, Stays}
use Rattle.pipe_load.proofs.HoldsLaws.{nothing_taken, same_stay, held_stays, pop_stays, pop_held, taken_held, others_stay}
use Rattle.pipe_load.proofs.MissingLaws.{nothing_missing, not_there, pop_less}
use Rattle.pipe_load.proofs.slots.Slots.fetch.Goals as goal

pub returns-in-Some-clause-value : goal.returns-in-Some-clause-value
returns-in-Some-clause-value g c = λ context l made more is before.
    let h = c.loop-kept.invariant.slots context l made more is before in
    let v = c.in-Some.ensures.some context l made h in (c.take_slot.ensures.slots context l made h, v.1, v.0)

pub loop-kept-preserved : goal.loop-kept-preserved
loop-kept-preserved g c =
    let inv = c.loop-kept.invariant in
    let none : slot_of c.loop-kept.self c.args.number ≡ None = sym c.take_slot.ensures.value ∙ c.in_default.is in
    let still : Stays c.loop-kept.self c.take_slot.new.self = same_stay c.loop-kept.self c.take_slot.new.self (nothing_taken c.loop-kept.self c.take_slot.new.self c.args.number none c.take_slot.ensures.emptied) in record {
      pass = subst (λ (ws : List Window). HasPut c.args.windows.now ws c.pop_one.new.pass) inv.pass.put_is c.pop_one.ensures.pass;
      many = c.pop_one.ensures.same ∙ c.take_slot.ensures.same ∙ inv.many;
      slots = λ context plan made more is before.
          c.pop_one.ensures.slots context plan made more (is ∙ ap (λ (ws : List Window). ws ++ more) (sym inv.pass.put_is)) (c.take_slot.ensures.slots context plan made (inv.slots context plan made more is before));
      held = pop_held c.args.number c.take_slot.new.self c.pop_one.new.self _ _ c.pop_one.ensures.popped c.pop_one.ensures.same
          (held_stays c.args.number c.loop-kept.self c.take_slot.new.self _ still c.take_slot.ensures.same inv.held);
      stays = λ k was. pop_stays _ _ _ _ c.pop_one.ensures.popped k (still k (inv.stays k was));
    }

pub returns-in-Some-clause-held : goal.returns-in-Some-clause-held
returns-in-Some-clause-held g c = taken_held c.loop-kept.self c.take_slot.new.self c.args.number _ c.take_slot.ensures.emptied c.take_slot.ensures.same c.loop-kept.invariant.held

pub returns-in-Some-clause-stays : goal.returns-in-Some-clause-stays
returns-in-Some-clause-stays g c = λ k apart was. others_stay c.loop-kept.self c.take_slot.new.self c.args.number c.take_slot.ensures.emptied k apart (c.loop-kept.invariant.stays k was)

pub loop-kept-smaller : goal.loop-kept-smaller
loop-kept-smaller g c =
    let inv = c.loop-kept.invariant in
    let none : slot_of c.loop-kept.self c.args.number ≡ None = sym c.take_slot.ensures.value ∙ c.in_default.is in
    pop_less _ _ _ _ c.pop_one.ensures.popped c.pop_one.ensures.most
    (λ empty. not_there c.loop-kept.self c.args.number none (nothing_missing c.args.number c.loop-kept.self (view c.loop-kept.pass) inv.pass.caller empty inv.held (let within = c.requires.within in let many = inv.many in omega (arith, within, many))))
