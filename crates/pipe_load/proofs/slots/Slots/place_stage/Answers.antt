use Rattle.std.proofs.Common.{◌<◌, ◌≤◌, List, All, get_or, length, vec_len, sym, subst, map, ◌++◌, arith}
use Rattle.std.proofs.lemmas.List.Elements.{All-map}
use Rattle.crossbeam_queue.specs.Passes.{view}
use Rattle.pipe_load.specs.declared.scanner.Kept.{Kept}
use Rattle.pipe_load.specs.declared.window.Window.{Window}
use Rattle.pipe_load.specs.PassViews.{IsOneOf, IsSettled}
use Rattle.pipe_load.specs.Slots.{Holds, HoldsAll}
use Rattle.pipe_load.proofs.ScanningLaws.{scanned_parts}
use Rattle.pipe_load.proofs.SlotsLaws.{all_behind, all_of_map, at_within, put_is_made}
use Rattle.pipe_load.proofs.slots.Slots.place_stage.Goals as goal

pub place_all-requires : goal.place_all-requires
place_all-requires c k d lt =
    let put : List Window = (view c.args.pass.now).put in
    let one : Window = (get_or c.args.stage.kept.items k d).window in
    let h = c.requires.all in
    let settled : All (IsOneOf put) ((view c.args.pass.now).taken ++ (view c.args.stage.pass).taken) = (subst IsSettled c.join.ensures.value c.settle.ensures.value).one in
    let took : All (IsOneOf put) (view c.args.stage.pass).taken = all_behind (IsOneOf put) (view c.args.pass.now).taken (view c.args.stage.pass).taken settled in
    let windows : All (IsOneOf put) (map (λ (k : Kept). k.window) c.args.stage.kept.items) = subst (All (IsOneOf put)) (sym h.2.all) took in
    let within : one.number < length put = at_within put one.number one (all_of_map (IsOneOf put) (λ (k : Kept). k.window) c.args.stage.kept.items windows k d lt) in
    let few : length put ≤ vec_len c.args.self.now.slots = c.requires.few in omega (arith, within, few)

pub returns-clause-slots : goal.returns-clause-slots
returns-clause-slots c = λ context l made more is scanned before.
    let put : List Window = (view c.args.pass.now).put in
    let settled : All (IsOneOf put) ((view c.args.pass.now).taken ++ (view c.args.stage.pass).taken) = (subst IsSettled c.join.ensures.value c.settle.ensures.value).one in
    let took : All (IsOneOf put) (view c.args.stage.pass).taken = all_behind (IsOneOf put) _ _ settled in
    let windows : All (IsOneOf put) (map (λ (k : Kept). k.window) c.args.stage.kept.items) = subst (All (IsOneOf put)) (sym scanned.all) took in
    c.place_all.ensures.slots context l made
    (λ k d lt. record { one = put_is_made put made more _ is (all_of_map (IsOneOf put) (λ (k : Kept). k.window) c.args.stage.kept.items windows k d lt); parts = scanned_parts context l _ (scanned.parts k d lt) }) before

pub returns-clause-all : goal.returns-clause-all
returns-clause-all c =
    subst (HoldsAll c.place_all.new.self) c.requires.all.2.all
    (All-map (λ (w : Window). Holds c.place_all.new.self w.number) (λ (k : Kept). k.window) c.args.stage.kept.items c.place_all.ensures.all)
