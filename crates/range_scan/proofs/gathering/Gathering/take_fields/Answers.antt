use Rattle.std.proofs.Common.{◌≤◌, ◌<◌, ◌∙◌, ℕ, arith}
use Rattle.std.proofs.lemmas.Bool.{leb-true}
use Rattle.range_scan.specs.Steps.{lines_before, verdict_on}
use Rattle.range_scan.proofs.NextRows.{end_is_small}
use Rattle.range_scan.proofs.Settling.{all_added, faulty_pushed, few_more, gathers_faulty, gathers_pushed, pushed_on}
use Rattle.range_scan.proofs.Texts.{row_is_text}
use Rattle.range_scan.proofs.gathering.Gathering.take_fields.Goals as goal

pub push_row-requires-clause-utf8 : goal.push_row-requires-clause-utf8
push_row-requires-clause-utf8 c = λ known.
    let bytes = c.args.bytes.now in
    let end = c.in_ok-end.end in
    let ends = c.in_ok-end.ensures.ok in
    let low : c.args.at ≤ end = omega (arith, ends) in
    row_is_text bytes c.args.at end c.args.known.text_to c.requires.known.text c.requires.within low
    (end_is_small c.args.context.now.dialect bytes c.args.at end ends) (leb-true end c.args.known.text_to known)

pub returns-then-faults-eq0-clause-value : goal.returns-then-faults-eq0-clause-value
returns-then-faults-eq0-clause-value c =
    let context = c.args.context.now in
    let self = c.args.self.now in
    let bytes = c.args.bytes.now in
    let base = c.args.base in
    let at = c.args.at in
    let end = c.in_ok-end.end in
    let lines : ℕ = lines_before self bytes at in
    let v = verdict_on context bytes base lines at in
    let faults = c.in_ok-faults.faults in
    let chunk = c.push_row.new.chunk in
    let pushed = pushed_on context bytes base lines at end c.read_row.new.self faults self.chunk chunk c.in_ok-end.ensures.ok c.in_ok-end.ensures.value c.in_ok-faults.ensures.ok in
    gathers_pushed context bytes base at self c.requires.ready v faults chunk c.read_row.new.self c.if-faults-eq0.true pushed

pub book_faults-requires-clause-faulty : goal.book_faults-requires-clause-faulty
book_faults-requires-clause-faulty c =
    let context = c.args.context.now in
    let self = c.args.self.now in
    let bytes = c.args.bytes.now in
    let base = c.args.base in
    let at = c.args.at in
    let end = c.in_ok-end.end in
    let lines : ℕ = lines_before self bytes at in
    let v = verdict_on context bytes base lines at in
    let faults = c.in_ok-faults.faults in
    let chunk = c.push_row.new.chunk in
    let pushed = pushed_on context bytes base lines at end c.read_row.new.self faults self.chunk chunk c.in_ok-end.ensures.ok c.in_ok-end.ensures.value c.in_ok-faults.ensures.ok in
    let some : 0 < faults = omega (arith, c.if-faults-eq0.false) in
    let faulty = faulty_pushed v faults self.chunk chunk some pushed in
    faulty.0

pub book_faults-requires-clause-fits : goal.book_faults-requires-clause-fits
book_faults-requires-clause-fits c =
    let context = c.args.context.now in
    let self = c.args.self.now in
    let bytes = c.args.bytes.now in
    let base = c.args.base in
    let at = c.args.at in
    let end = c.in_ok-end.end in
    let lines : ℕ = lines_before self bytes at in
    let v = verdict_on context bytes base lines at in
    let faults = c.in_ok-faults.faults in
    let chunk = c.push_row.new.chunk in
    let pushed = pushed_on context bytes base lines at end c.read_row.new.self faults self.chunk chunk c.in_ok-end.ensures.ok c.in_ok-end.ensures.value c.in_ok-faults.ensures.ok in
    let some : 0 < faults = omega (arith, c.if-faults-eq0.false) in
    let faulty = faulty_pushed v faults self.chunk chunk some pushed in
    let few = few_more context bytes base lines at end faulty.0.0 c.in_ok-end.ensures.ok faulty.0.1 in
    omega (arith, few, faulty.0.2, c.requires.ready.few_faults, c.requires.ready.within, c.in_ok-end.ensures.within.0, c.requires.ready.room)

pub returns-clause-value : goal.returns-clause-value
returns-clause-value c =
    let context = c.args.context.now in
    let self = c.args.self.now in
    let bytes = c.args.bytes.now in
    let base = c.args.base in
    let at = c.args.at in
    let end = c.in_ok-end.end in
    let lines : ℕ = lines_before self bytes at in
    let v = verdict_on context bytes base lines at in
    let faults = c.in_ok-faults.faults in
    let chunk = c.push_row.new.chunk in
    let pushed = pushed_on context bytes base lines at end c.read_row.new.self faults self.chunk chunk c.in_ok-end.ensures.ok c.in_ok-end.ensures.value c.in_ok-faults.ensures.ok in
    let some : 0 < faults = omega (arith, c.if-faults-eq0.false) in
    let faulty = faulty_pushed v faults self.chunk chunk some pushed in
    let booked = c.in_ok-book_faults.ensures.ok in
    gathers_faulty context bytes base at self v c.requires.ready c.book_faults.new.self faulty.0.0 faulty.0.1 (booked.0, booked.1 ∙ faulty.1) c.in_ok-book_faults.ensures.lines

pub returns-clause-within : goal.returns-clause-within
returns-clause-within c =
    let context = c.args.context.now in
    let self = c.args.self.now in
    let bytes = c.args.bytes.now in
    let base = c.args.base in
    let at = c.args.at in
    let end = c.in_ok-end.end in
    let lines : ℕ = lines_before self bytes at in
    let v = verdict_on context bytes base lines at in
    let faults = c.in_ok-faults.faults in
    let chunk = c.push_row.new.chunk in
    let pushed = pushed_on context bytes base lines at end c.read_row.new.self faults self.chunk chunk c.in_ok-end.ensures.ok c.in_ok-end.ensures.value c.in_ok-faults.ensures.ok in
    let some : 0 < faults = omega (arith, c.if-faults-eq0.false) in
    let faulty = faulty_pushed v faults self.chunk chunk some pushed in
    let few = few_more context bytes base lines at end faulty.0.0 c.in_ok-end.ensures.ok faulty.0.1 in
    let all = all_added self.book c.book_faults.new.self.book v faulty.0.0 faulty.0.1 c.in_ok-book_faults.ensures.ok.0 in
    (c.in_ok-end.ensures.within.0, omega (arith, few, all, faulty.0.2, c.requires.ready.few_faults, c.in_ok-end.ensures.ok))
