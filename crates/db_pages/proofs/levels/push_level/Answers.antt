use Rattle.std.proofs.Common.{◌≡◌, ◌+◌, List, ap, arith, length, length-drop}
use Rattle.std.proofs.lemmas.Result.{on_ok_weaker}
use Rattle.db_pages.specs.declared.child.Child.{Child}
use Rattle.db_pages.proofs.Grouping.{level-end, level-step, pages-end, pages-step}
use Rattle.db_pages.proofs.levels.push_level.Goals as goal

pub loop-rest-preserved : goal.loop-rest-preserved
loop-rest-preserved c =
    let rest : List Child = c.loop-rest.rest.now in
    let many = c.loop-rest-test.true in
    let next : c.in_ok-place.place ≡ c.loop-rest.place + 1 = grind arith in
    record {
      some = omega (arith, ap length c.split_at.ensures.back, length-drop 128 rest, many);
      pages = pages-step rest c.split_at.result.0.now c.split_at.result.1.now _ c.loop-rest.into.items c.push_group.new.into.items
          (omega (arith, many)) c.split_at.ensures.front c.split_at.ensures.back c.loop-rest.invariant.pages c.in_ok-push_group.ensures.pages;
      level = level-step c.loop-rest.place c.in_ok-place.place rest c.split_at.result.0.now c.split_at.result.1.now _ c.loop-rest.level.items c.push_group.new.level.items
          (omega (arith, many)) next c.split_at.ensures.front c.split_at.ensures.back c.loop-rest.invariant.level c.in_ok-push_group.ensures.level;
    }

pub returns : goal.returns
returns c =
    let rest : List Child = c.loop-rest.rest.now in
    let few = c.loop-rest-test.false in
    record {
      pages = on_ok_weaker c.push_group-2.result
          (λ out. pages-end rest _ c.loop-rest.into.items c.push_group-2.new.into.items c.loop-rest.invariant.some few c.loop-rest.invariant.pages out) c.push_group-2.ensures.pages;
      level = on_ok_weaker c.push_group-2.result
          (λ out. level-end c.loop-rest.place rest _ c.loop-rest.level.items c.push_group-2.new.level.items c.loop-rest.invariant.some few c.loop-rest.invariant.level out) c.push_group-2.ensures.level;
    }
