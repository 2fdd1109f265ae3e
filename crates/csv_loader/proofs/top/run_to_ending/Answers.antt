use Rattle.std.proofs.Common.{map}
use Rattle.loader_reply.specs.Reply.{texts}
use Rattle.csv_loader.proofs.Runs.{is_run, no_run}
use Rattle.csv_loader.proofs.top.run_to_ending.Goals as goal

pub returns-in-Ok-clause-run : goal.returns-in-Ok-clause-run
returns-in-Ok-clause-run g c =
    is_run (map (λ tap. (goal.RowTap-dyn g (tap.vtable, tap.value)).seen tap.value) c.args.taps.items) (texts c.args.words.now) _ _ _ _ c.in-Ok.reply c.in-Ok.ensures.ok
    c.in-Ok.ensures.fault_of_file c.reply_to.ensures.held c.reply_to.ensures.count c.write.ensures.count _ c.write.ensures.ending c.write.ensures.written

pub returns-in-Err-clause-run : goal.returns-in-Err-clause-run
returns-in-Err-clause-run g c = no_run _ _ _ _ _ c.reply_to.ensures.held c.reply_to.ensures.count
