use Rattle.std.proofs.Common.{◌≡◌, ◌+◌, false, refl, ap, ◌∙◌, arith}
use Rattle.column_store.proofs.Filled.{on_err}
use Rattle.pipe_load.specs.declared.stage.Stage.{Stage}
use Rattle.crossbeam_queue.specs.Passes.{view}
use Rattle.pipe_load.specs.PassViews.{with_stages}
use Rattle.pipe_load.specs.Scanning.{IsStage, HasScanned}
use Rattle.pipe_load.proofs.ScanningLaws.{all_more, fresh_stage, more_stages}
use Rattle.pipe_load.proofs.stages.stages_of.Goals as goal

pub loop-worker-preserved : goal.loop-worker-preserved
loop-worker-preserved c =
    let inv = c.loop-worker.invariant in
    let pass = c.split.ensures.pass in
    let value = c.split.ensures.value in
    let items = c.in_ok-push.ensures.items in
    record {
      pass = record {
        of = pass.0;
        caller = ap (λ v. v.role) value.0 ∙ inv.pass.caller;
        taken = ap (λ v. v.taken) value.0 ∙ inv.pass.taken;
        stages = refl;
      };
      split = value.0 ∙ ap (λ v. with_stages v 1) inv.split ∙ more_stages (view c.args.pass.now) c.loop-worker.worker 1;
      stages = all_more (IsStage c.args.windows.now) _ _ _ items inv.stages record { of = pass.1; role = ap (λ v. v.role) value.1 };
      all = λ context l. all_more (HasScanned context l) _ _ _ items (inv.all context l) (fresh_stage context l _ c.new.ensures.items value.1);
      short = all_more (λ (s : Stage). s.short ≡ false) _ _ _ items inv.short refl;
      count = let len = c.in_ok-push.ensures.len in let before = inv.count in omega (arith, len, before);
    }

pub returns-in_err-push-clause-err : goal.returns-in_err-push-clause-err
returns-in_err-push-clause-err c =
    on_err c.from_residual.result (
      c.loop-worker.worker + 1,
      c.split.ensures.value.0 ∙ ap (λ v. with_stages v 1) c.loop-worker.invariant.split ∙ more_stages (view c.args.pass.now) c.loop-worker.worker 1,
    )
