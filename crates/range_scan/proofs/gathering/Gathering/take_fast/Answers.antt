use Rattle.std.proofs.Common.{ℕ, ◌+◌, refl}
use Rattle.std.proofs.lemmas.Result.{IfOk-weaker}
use Rattle.reject_book.specs.declared.reject.RowPlace.{RowPlace}
use Rattle.range_scan.specs.Steps.{lines_before, verdict_on}
use Rattle.range_scan.proofs.FastSteps.{on_some}
use Rattle.range_scan.proofs.Settling.{gathers_pushed}
use Rattle.range_scan.proofs.gathering.Gathering.take_fast.Goals as goal

pub returns-clause-value : goal.returns-clause-value
returns-clause-value c =
    let context = c.args.context.now in
    let self = c.args.self.now in
    let bytes = c.args.bytes.now in
    let at = c.args.at in
    let lines : ℕ = lines_before self bytes at in
    let place : RowPlace = record { scan_id = context.scan_id; file_id = context.file_id; line = 1 + lines; start = c.args.base + at } in
    IfOk-weaker c.push_fast.result _ _
    (λ row. on_some row (λ end taken. gathers_pushed context bytes c.args.base at self c.requires.ready (verdict_on context bytes c.args.base lines at) 0 c.push_fast.new.chunk self.fields refl (taken.2 place)))
    c.push_fast.ensures.ok
