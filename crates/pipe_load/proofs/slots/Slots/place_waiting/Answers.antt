use Rattle.std.proofs.Common.{◌<◌, All, ◌∙◌, subst, vec_len, arith, ◌∷◌}
use Rattle.std.proofs.lemmas.List.Elements.{All-head, All-tail}
use Rattle.pipe_load.specs.declared.window.Window.{Window}
use Rattle.pipe_load.specs.PassViews.{IsOneOf}
use Rattle.pipe_load.specs.Slots.{Holds}
use Rattle.pipe_load.proofs.HoldsLaws.{done_first, none_behind, put_holds, put_stays}
use Rattle.pipe_load.proofs.SlotsLaws.{no_parts}
use Rattle.pipe_load.proofs.slots.Slots.place_waiting.Goals as goal

pub loop-window-preserved : goal.loop-window-preserved
loop-window-preserved c =
    let inv = c.loop-window.invariant in
    let items = c.in-Some.ensures.items in
    let Within : Window → Type 0 = λ w. w.number < vec_len c.loop-window.self.slots in
    let window = c.in-Some.window in
    let within = All-head Within window c.pop_front.new.self.items (subst (All Within) items inv.within) in
    let stays = put_stays c.loop-window.self c.place.new.self window.number _ c.place.ensures.value within in
    record {
      many = c.place.ensures.same ∙ inv.many;
      within = λ k d lt. let h = All-tail Within c.in-Some.window c.pop_front.new.self.items (subst (All Within) items inv.within) k d lt in let e = c.place.ensures.same in omega (arith, h, e);
      slots = λ context plan made all before.
          let h = inv.slots context plan made all before in
          let t : All (IsOneOf made) (c.in-Some.window ∷ c.pop_front.new.self.items) = subst (All (IsOneOf made)) items h.0 in (
            All-tail (IsOneOf made) c.in-Some.window c.pop_front.new.self.items t,
            c.place.ensures.slots context plan made h.1 record { one = All-head (IsOneOf made) c.in-Some.window c.pop_front.new.self.items t; parts = no_parts context plan _ c.new.ensures.items },
          );
      done = done_first (λ (w : Window). Holds c.place.new.self w.number) _ _ c.pop_front.new.self.items inv.done.0 window inv.done.1 items
          (put_holds c.loop-window.self c.place.new.self window.number _ c.place.ensures.value within) (λ k d lt. stays _ (inv.done.2 k d lt));
      stays = λ k was. stays k (inv.stays k was);
    }

pub returns-clause-slots : goal.returns-clause-slots
returns-clause-slots c = λ context plan made all before. (c.loop-window.invariant.slots context plan made all before).1

pub returns-clause-all : goal.returns-clause-all
returns-clause-all c =
    let inv = c.loop-window.invariant in
    none_behind (λ (w : Window). Holds c.loop-window.self w.number) c.args.waiting.items c.loop-window.waiting.items inv.done.0 inv.done.1
    (let none = c.in_default.ensures.cases.0 in omega (arith, none, c.loop-window.waiting.ok.0)) inv.done.2
