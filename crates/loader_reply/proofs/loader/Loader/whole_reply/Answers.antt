use Rattle.std.proofs.Common.{map}
use Rattle.std.proofs.lemmas.Result.{IfOk-weaker}
use Rattle.loader_reply.proofs.Replies.{loaded_prints, loaded_whole}
use Rattle.loader_reply.proofs.loader.Loader.whole_reply.Goals as goal

pub loaded_report-requires-after_bounds : goal.loaded_report-requires-after_bounds
loaded_report-requires-after_bounds g c κs within = loaded_prints c.args.self.now.options.now c.args.sniffed c.args.batch c.args.stats c.loaded_of.result c.loaded_of.ensures c.requires.answerable.printable

pub returns-in-Loaded : goal.returns-in-Loaded
returns-in-Loaded g c =
    let o = c.args.self.now.options.now in
    let taps = map (λ tap. (goal.RowTap-dyn g (tap.vtable, tap.value)).seen tap.value) c.args.taps.items in record {
      ok = IfOk-weaker c.loaded_report.result _ _
          (λ r is. loaded_whole o c.args.sniffed taps c.args.batch c.args.stats c.args.answer c.loaded_of.result r c.in-Loaded.is c.loaded_of.ensures is) c.loaded_report.ensures;
    }
