use Rattle.std.proofs.Common.{drop}
use Rattle.load_options.proofs.ListSteps.{copy_go_on}
use Rattle.load_options.proofs.nulls.other_texts.Goals as goal

pub loop-at-preserved : goal.loop-at-preserved
loop-at-preserved c =
    copy_go_on c.loop-at.others _ (drop 1 c.args.texts.now) c.args.texts.now c.loop-at.at c.get.result.now c.get.ensures c.in_ok-push.ensures.ok c.loop-at.invariant
