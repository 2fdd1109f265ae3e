use Rattle.std.proofs.Common.{◌≡◌, ◌+◌, ◌≤◌, false, true, ◌∙◌, ap, arith}
use Rattle.window_load.specs.Window.{WindowView, reach}
use Rattle.window_load.proofs.ReachedOn.{drops_and_reaches, reaches_twice, less_to_come, bounded, going_on}
use Rattle.window_load.proofs.window.InputWindow.read_past.Goals as goal

pub loop-self-smaller : goal.loop-self-smaller
loop-self-smaller g c =
    let going : c.loop-self.self.ended ≡ false =
    going_on c.self.inside.front c.self.inside.bytes c.self.inside.base c.self.inside.most c.self.inside.ended c.loop-self.self c.self.view_is c.loop-self-test.true in
    let bound : reach c.loop-self.self ≤ c.loop-self.self.most + 1 =
    bounded c.self.inside.front c.self.inside.bytes c.self.inside.base c.self.inside.most c.self.inside.ended c.loop-self.self c.self.view_is c.self.invariant.1 in
    less_to_come (g.S.Source.left c.loop-self.source) (g.S.Source.left c.fill_to.new.source) c.len-len.result c.loop-self.self c.drop_front.new.self c.fill_to.new.self c.drop_front.ensures (omega (arith, c.len-len.ensures))
    c.fill_to.ensures.moved c.fill_to.ensures.same.0 c.fill_to.ensures.same.1 going bound 65536 (omega arith) c.in_ok-fill_to.ensures.ok c.len-len.ensures

pub loop-self-preserved : goal.loop-self-preserved
loop-self-preserved g c =
    let going : c.loop-self.self.ended ≡ false =
    going_on c.self.inside.front c.self.inside.bytes c.self.inside.base c.self.inside.most c.self.inside.ended c.loop-self.self c.self.view_is c.loop-self-test.true in (
      reaches_twice (g.S.Source.left c.args.source.now) (g.S.Source.left c.loop-self.source) (g.S.Source.left c.fill_to.new.source) c.args.self.now c.loop-self.self c.fill_to.new.self c.loop-self.invariant.0
          (drops_and_reaches (g.S.Source.left c.loop-self.source) (g.S.Source.left c.fill_to.new.source) c.len-len.result c.loop-self.self c.drop_front.new.self c.fill_to.new.self c.drop_front.ensures (omega (arith, c.len-len.ensures))
          c.fill_to.ensures.moved c.fill_to.ensures.same.0 c.fill_to.ensures.same.1),
      λ ended. absurd (let still : c.loop-self.self.ended ≡ true = ap (λ (v : WindowView). v.ended) (c.loop-self.invariant.1 ended) ∙ ended in let wrong : ⊥ = cc in wrong),
      c.fill_to.ensures.at_end,
      c.fill_to.ensures.held ∙ c.loop-self.invariant.3,
      omega (arith, c.fill_to.ensures.count, c.loop-self.invariant.4),
    )

pub returns-in_err-fill_to-clause-moved : goal.returns-in_err-fill_to-clause-moved
returns-in_err-fill_to-clause-moved g c =
    reaches_twice (g.S.Source.left c.args.source.now) (g.S.Source.left c.loop-self.source) (g.S.Source.left c.fill_to.new.source) c.args.self.now c.loop-self.self c.fill_to.new.self c.loop-self.invariant.0
    (drops_and_reaches (g.S.Source.left c.loop-self.source) (g.S.Source.left c.fill_to.new.source) c.len-len.result c.loop-self.self c.drop_front.new.self c.fill_to.new.self c.drop_front.ensures (omega (arith, c.len-len.ensures))
    c.fill_to.ensures.moved c.fill_to.ensures.same.0 c.fill_to.ensures.same.1)
