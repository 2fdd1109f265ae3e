use Rattle.std.proofs.Common.{◌<◌, All, ◌∙◌, subst, vec_len, arith, [], ◌∷◌, ◌++◌}
use Rattle.pipe_load.specs.declared.scanner.Kept.{Kept}
use Rattle.pipe_load.specs.Slots.{IsInHand, Holds}
use Rattle.pipe_load.proofs.HoldsLaws.{done_last, none_left, put_holds, put_stays}
use Rattle.pipe_load.proofs.SlotsLaws.{all_but_last, of_last}
use Rattle.pipe_load.proofs.slots.Slots.place_all.Goals as goal

pub loop-one-preserved : goal.loop-one-preserved
loop-one-preserved c =
    let inv = c.loop-one.invariant in
    let items = c.in-Some.ensures.items in
    let Within : Kept → Type 0 = λ k. k.window.number < vec_len c.loop-one.self.slots in
    let one = c.in-Some.one in
    let within = of_last Within c.pop.new.self.items one (subst (All Within) items inv.within) in
    let stays = put_stays c.loop-one.self c.place.new.self one.window.number one c.place.ensures.value within in
    record {
      many = c.place.ensures.same ∙ inv.many;
      within = λ k d lt. let h = all_but_last Within c.pop.new.self.items c.in-Some.one (subst (All Within) items inv.within) k d lt in let e = c.place.ensures.same in omega (arith, h, e);
      slots = λ context plan made all before.
          let h = inv.slots context plan made all before in
          let t : All (IsInHand context plan made) (c.pop.new.self.items ++ c.in-Some.one ∷ []) = subst (All (IsInHand context plan made)) items h.0 in
          (all_but_last (IsInHand context plan made) c.pop.new.self.items c.in-Some.one t, c.place.ensures.slots context plan made h.1 (of_last (IsInHand context plan made) c.pop.new.self.items c.in-Some.one t));
      done = done_last (λ (k : Kept). Holds c.place.new.self k.window.number) _ _ c.pop.new.self.items inv.done.0 one inv.done.1 items
          (put_holds c.loop-one.self c.place.new.self one.window.number one c.place.ensures.value within) (λ k d lt. stays _ (inv.done.2 k d lt));
      stays = λ k was. stays k (inv.stays k was);
    }

pub returns-clause-slots : goal.returns-clause-slots
returns-clause-slots c = λ context plan made all before. (c.loop-one.invariant.slots context plan made all before).1

pub returns-clause-all : goal.returns-clause-all
returns-clause-all c =
    let inv = c.loop-one.invariant in
    none_left (λ (k : Kept). Holds c.loop-one.self k.window.number) c.args.kept.items c.loop-one.kept.items inv.done.0 inv.done.1
    (let none = c.in_default.ensures.cases.0 in omega (arith, none, c.loop-one.kept.ok.0)) inv.done.2
