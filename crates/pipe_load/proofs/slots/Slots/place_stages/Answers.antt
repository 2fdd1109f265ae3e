use Rattle.std.proofs.Common.{◌≡◌, ◌+◌, ◌-◌, List, [], ◌∷◌, ◌++◌, length, length-append, All, ◌∙◌, sym, ap, subst, arith}
use Rattle.std.proofs.lemmas.List.Elements.{All-append}
use Rattle.crossbeam_queue.specs.Passes.{view}
use Rattle.pipe_load.specs.declared.stage.Stage.{Stage}
use Rattle.pipe_load.specs.declared.window.Window.{Window}
use Rattle.pipe_load.specs.Scanning.{IsStage, HasScanned}
use Rattle.pipe_load.specs.Slots.{HasPut, Holds, HoldsAll}
use Rattle.pipe_load.proofs.HoldsLaws.{done_last, none_left, all_stay}
use Rattle.pipe_load.proofs.SlotsLaws.{all_but_last, of_last}
use Rattle.pipe_load.proofs.slots.Slots.place_stages.Goals as goal

pub loop-stage-preserved : goal.loop-stage-preserved
loop-stage-preserved c =
    let inv = c.loop-stage.invariant in
    let items = c.in-Some.ensures.items in
    let rest = c.pop.new.self.items in
    let one = c.in-Some.stage in
    let stages : All (IsStage c.args.windows.now) (rest ++ one ∷ []) = subst (All (IsStage c.args.windows.now)) items inv.stages in
    let scanned : All (HasScanned inv.all.0 inv.all.1) (rest ++ one ∷ []) = subst (All (HasScanned inv.all.0 inv.all.1)) items inv.all.2 in
    record {
      pass = subst (λ (ws : List Window). HasPut c.args.windows.now ws c.place_stage.new.pass) inv.pass.put_is c.place_stage.ensures.pass;
      many = c.place_stage.ensures.same ∙ inv.many;
      apart =
          let left : (view c.place_stage.new.pass).stages ≡ (view c.loop-stage.pass).stages - 1 = ap (λ v. v.stages) c.place_stage.ensures.joined in
          let lengths : length c.loop-stage.stages.items ≡ length rest + 1 = ap length items ∙ length-append rest (one ∷ []) in
          let before = inv.apart in omega (arith, left, lengths, before, c.loop-stage.stages.ok.0, c.pop.new.self.ok.0);
      stages = all_but_last (IsStage c.args.windows.now) rest one stages;
      all = (inv.all.0, inv.all.1, all_but_last (HasScanned inv.all.0 inv.all.1) rest one scanned);
      slots = λ context plan made more is all before.
          let h = inv.slots context plan made more is all before in
          let t : All (HasScanned context plan) (rest ++ one ∷ []) = subst (All (HasScanned context plan)) items h.0 in (
            all_but_last (HasScanned context plan) rest one t,
            c.place_stage.ensures.slots context plan made more (is ∙ ap (λ (ws : List Window). ws ++ more) (sym inv.pass.put_is)) (of_last (HasScanned context plan) rest one t) h.1,
          );
      done = done_last (λ (s : Stage). HoldsAll c.place_stage.new.self (view s.pass).taken) _ _ rest inv.done.0 one inv.done.1 items
          c.place_stage.ensures.all (λ k d lt. all_stay c.loop-stage.self c.place_stage.new.self _ c.place_stage.ensures.stays (inv.done.2 k d lt));
      taken = λ first.
          subst (HoldsAll c.place_stage.new.self) (sym (ap (λ v. v.taken) c.place_stage.ensures.joined))
          (All-append (λ (w : Window). Holds c.place_stage.new.self w.number) _ _ (all_stay c.loop-stage.self c.place_stage.new.self _ c.place_stage.ensures.stays (inv.taken first)) c.place_stage.ensures.all);
      stays = λ k was. c.place_stage.ensures.stays k (inv.stays k was);
    }

pub returns-clause-slots : goal.returns-clause-slots
returns-clause-slots c = λ context plan made more is all before. (c.loop-stage.invariant.slots context plan made more is all before).1

pub returns-clause-all : goal.returns-clause-all
returns-clause-all c =
    let inv = c.loop-stage.invariant in
    none_left (λ (s : Stage). HoldsAll c.loop-stage.self (view s.pass).taken) c.args.stages.items c.loop-stage.stages.items inv.done.0 inv.done.1
    (let none = c.in_default.ensures.cases.0 in omega (arith, none, c.loop-stage.stages.ok.0)) inv.done.2
