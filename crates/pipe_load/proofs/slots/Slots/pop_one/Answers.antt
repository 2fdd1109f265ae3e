use Rattle.std.proofs.Common.{◌<◌, List, [], ◌∷◌, All, vec_len, inr, subst, ◌++◌, ◌∙◌, arith}
use Rattle.crossbeam_queue.specs.Passes.{view}
use Rattle.pipe_load.specs.declared.window.Item.TheVariants as item
use Rattle.pipe_load.specs.declared.window.Window.{Window}
use Rattle.pipe_load.specs.PassViews.{IsOneOf, IsSettled}
use Rattle.pipe_load.proofs.HoldsLaws.{put_holds, put_stays}
use Rattle.pipe_load.proofs.MissingLaws.{took_role}
use Rattle.pipe_load.proofs.SlotsLaws.{of_last, at_within, no_parts, put_is_made}
use Rattle.pipe_load.proofs.slots.Slots.pop_one.Goals as goal

pub settle-requires-clause-caller : goal.settle-requires-clause-caller
settle-requires-clause-caller g c = took_role (view c.args.pass.now) (view c.take-item.new.pass) c.take-item.result c.take-item.ensures.some c.take-item.ensures.none ∙ c.requires.pass.caller

pub place-requires : goal.place-requires
place-requires g c =
    let put : List Window = (view c.args.pass.now).put in
    let took = rw c.in-Some-Window.field-0-is at c.in-Some-Window.ensures.some in
    let settled : All (IsOneOf put) ((view c.args.pass.now).taken ++ c.in-Some-Window.window ∷ []) = (subst IsSettled took c.settle.ensures.value).one in
    let within = at_within put _ _ (of_last (IsOneOf put) _ c.in-Some-Window.window settled) in
    let few = c.requires.few in omega (arith, within, few)

pub returns-in-Some-Window-clause-slots : goal.returns-in-Some-Window-clause-slots
returns-in-Some-Window-clause-slots g c = λ context l made more is before.
    let put : List Window = (view c.args.pass.now).put in
    let took = rw c.in-Some-Window.field-0-is at c.in-Some-Window.ensures.some in
    let settled : All (IsOneOf put) ((view c.args.pass.now).taken ++ c.in-Some-Window.window ∷ []) = (subst IsSettled took c.settle.ensures.value).one in
    c.place.ensures.slots context l made before record { one = put_is_made put made more _ is (of_last (IsOneOf put) _ c.in-Some-Window.window settled); parts = no_parts context l _ c.new.ensures.items }

pub returns-in-Some-Window-clause-popped : goal.returns-in-Some-Window-clause-popped
returns-in-Some-Window-clause-popped g c =
    let put : List Window = (view c.args.pass.now).put in
    let took = rw c.in-Some-Window.field-0-is at c.in-Some-Window.ensures.some in
    let settled : All (IsOneOf put) ((view c.args.pass.now).taken ++ c.in-Some-Window.window ∷ []) = (subst IsSettled took c.settle.ensures.value).one in
    let within = at_within put _ _ (of_last (IsOneOf put) _ c.in-Some-Window.window settled) in
    let few = c.requires.few in
    let inside : c.in-Some-Window.window.number < vec_len c.args.self.now.slots = omega (arith, within, few) in
    inr (item.Window c.in-Some-Window.window, c.settle.ensures.same ∙ took, (put_holds c.args.self.now c.place.new.self _ _ c.place.ensures.value inside, put_stays c.args.self.now c.place.new.self _ _ c.place.ensures.value inside))
