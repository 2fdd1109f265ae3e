use Rattle.std.proofs.Common.{◌≡◌, ◌++◌, List, refl, sym, ap, ◌∙◌, subst, arith}
use Rattle.pipe_load.specs.declared.window.Window.{Window}
use Rattle.pipe_load.specs.Feeding.{made_of}
use Rattle.pipe_load.specs.Joining.{AddsWindows}
use Rattle.pipe_load.specs.Slots.{HasPut}
use Rattle.pipe_load.proofs.RoundLaws.{adds_none, adds_window}
use Rattle.pipe_load.proofs.pipeline.Pipeline.join_windows.Goals as goal

pub take_in_hand-requires-clause-all : goal.take_in_hand-requires-clause-all
take_in_hand-requires-clause-all g c = (c.args.self.now.scanner.ranges.context.now, c.args.self.now.scanner.layout, c.requires.all)

pub loop-number-init : goal.loop-number-init
loop-number-init g c =
    let context = c.args.self.now.scanner.ranges.context.now in
    let l = c.args.self.now.scanner.layout in
    let hand = c.in_ok-slots.ensures in
    record {
      pass = hand.pass;
      many = hand.same;
      slots = hand.slots context l c.requires.all;
      held = hand.held;
      adds = adds_none context l (made_of c.args.feed) c.args.reader.now.number c.args.joined.now c.requires.types c.requires.keep;
      same = (refl, refl, refl);
    }

pub loop-number-preserved : goal.loop-number-preserved
loop-number-preserved g c =
    let context = c.args.self.now.scanner.ranges.context.now in
    let l = c.args.self.now.scanner.layout in
    let made : List Window = made_of c.args.feed in
    let inv = c.loop-number.invariant in
    let put_is = inv.pass.put_is in
    let got = c.fetch-kept.ensures.value context l made c.args.feed.waiting.items (ap (λ (ws : List Window). ws ++ c.args.feed.waiting.items) (sym put_is)) inv.slots in
    record {
      pass = subst (λ (ws : List Window). HasPut c.args.windows.now ws c.fetch-kept.new.pass) put_is c.fetch-kept.ensures.pass;
      many = c.fetch-kept.ensures.same ∙ inv.many;
      slots = got.0;
      held = c.fetch-kept.ensures.held;
      adds = adds_window context l made c.args.reader.now.number c.loop-number.number c.fetch-kept.result.window c.args.joined.now c.loop-number.joined c.add_window.new.joined
          c.args.self.now.scanner.lies c.args.self.now.reaches got.1.one got.2 c.loop-number-test.true inv.adds c.in_ok-spare.ensures;
      same = inv.same;
    }

pub returns-clause-ok : goal.returns-clause-ok
returns-clause-ok g c =
    let last : c.loop-number.number ≡ c.args.reader.now.number = let t = c.loop-number-test.false in omega (arith, t) in
    subst (λ n. AddsWindows c.args.self.now.scanner.ranges.context.now c.args.self.now.scanner.layout (made_of c.args.feed) c.args.reader.now.number n c.args.joined.now c.loop-number.joined) last c.loop-number.invariant.adds
