use Rattle.std.proofs.Common.{◌≡◌, List, All, refl, subst, arith, length-append, false}
use Rattle.crossbeam_queue.specs.Passes.{view}
use Rattle.pipe_load.specs.declared.stage.Stage.{Stage}
use Rattle.pipe_load.specs.declared.window.Window.{Window}
use Rattle.pipe_load.specs.Feeding.{made_of}
use Rattle.pipe_load.specs.Slots.{AreSlots, HoldsAll}
use Rattle.pipe_load.proofs.HoldsLaws.{all_held, all_stay, none_held}
use Rattle.pipe_load.proofs.LoadLaws.{number_behind, waiting_is_made}
use Rattle.pipe_load.proofs.order.take_in_hand.Goals as goal

pub place_stages-requires-clause-few : goal.place_stages-requires-clause-few
place_stages-requires-clause-few c =
    let put : List Window = (view c.args.feed.pass).put in
    let h = c.requires.all in
    let slots : AreSlots h.0 h.1 (made_of c.args.feed) c.in_ok-slots.slots = c.in_ok-slots.ensures.slots h.0 h.1 (made_of c.args.feed) c.requires.made in
    let many = slots.many in let made = c.requires.made in
    omega (arith, many, made, length-append put c.args.feed.waiting.items, c.in_ok-slots.slots.slots.ok.0)

pub place_stages-requires-clause-all : goal.place_stages-requires-clause-all
place_stages-requires-clause-all c =
    let h = c.requires.all in
    let long : All (λ (s : Stage). s.short ≡ false) c.args.stages.items = subst (All (λ (s : Stage). s.short ≡ false)) c.as_slice.ensures.value (c.any_short.ensures.none c.if-any_short.false) in
    (h.0, h.1, λ k d lt. h.2 k d lt (long k d lt))

pub place_waiting-requires : goal.place_waiting-requires
place_waiting-requires c k d lt =
    let put : List Window = (view c.args.feed.pass).put in
    let number = number_behind put c.args.feed.waiting.items c.requires.numbered k d lt in
    let h = c.requires.all in
    let slots : AreSlots h.0 h.1 (made_of c.args.feed) c.in_ok-slots.slots = c.in_ok-slots.ensures.slots h.0 h.1 (made_of c.args.feed) c.requires.made in
    let many = slots.many in let made = c.requires.made in let same = c.place_stages.ensures.same in
    omega (arith, lt, number, many, made, same, length-append put c.args.feed.waiting.items, c.in_ok-slots.slots.slots.ok.0)

pub returns-clause-same : goal.returns-clause-same
returns-clause-same c =
    let h = c.requires.all in
    let slots : AreSlots h.0 h.1 (made_of c.args.feed) c.in_ok-slots.slots = c.in_ok-slots.ensures.slots h.0 h.1 (made_of c.args.feed) c.requires.made in
    let many = slots.many in let made = c.requires.made in let a = c.place_stages.ensures.same in let b = c.place_waiting.ensures.same in
    omega (arith, many, made, a, b, c.in_ok-slots.slots.slots.ok.0)

pub returns-clause-slots : goal.returns-clause-slots
returns-clause-slots c = λ context l all.
    let made : List Window = made_of c.args.feed in
    let put : List Window = (view c.args.feed.pass).put in
    let long : All (λ (s : Stage). s.short ≡ false) c.args.stages.items = subst (All (λ (s : Stage). s.short ≡ false)) c.as_slice.ensures.value (c.any_short.ensures.none c.if-any_short.false) in
    let staged : AreSlots context l made c.place_stages.new.self =
    c.place_stages.ensures.slots context l made c.args.feed.waiting.items refl (λ k d lt. all k d lt (long k d lt)) (c.in_ok-slots.ensures.slots context l made c.requires.made) in
    c.place_waiting.ensures.slots context l made (waiting_is_made put c.args.feed.waiting.items c.requires.numbered) staged

pub returns-clause-stages : goal.returns-clause-stages
returns-clause-stages c = λ k d lt. all_stay c.place_stages.new.self c.place_waiting.new.self _ c.place_waiting.ensures.stays (c.place_stages.ensures.all k d lt)

pub returns-clause-held : goal.returns-clause-held
returns-clause-held c =
    let put : List Window = (view c.args.feed.pass).put in
    let h = c.requires.all in
    let slots : AreSlots h.0 h.1 (made_of c.args.feed) c.in_ok-slots.slots = c.in_ok-slots.ensures.slots h.0 h.1 (made_of c.args.feed) c.requires.made in
    let many = slots.many in let a = c.place_stages.ensures.same in let b = c.place_waiting.ensures.same in
    let first : HoldsAll c.in_ok-slots.slots (view c.args.feed.pass).taken = none_held c.in_ok-slots.slots _ c.requires.feed.taken in
    all_held put c.args.feed.waiting.items c.place_waiting.new.self (view c.place_stages.new.pass) c.requires.numbered c.place_stages.ensures.pass.put_is c.place_stages.ensures.joined
    (omega (arith, many, a, b, c.in_ok-slots.slots.slots.ok.0))
    (all_stay c.place_stages.new.self c.place_waiting.new.self _ c.place_waiting.ensures.stays (c.place_stages.ensures.taken first)) c.place_waiting.ensures.all
