use Rattle.std.proofs.Common.{◌≡◌, ◌+◌, ◌-◌, ◌<◌, ◌≤◌, ◌^◌, sym, subst, ap, ◌∙◌, length, refl, arith, rules}
use Rattle.std.specs.Prelude.{None, Err}
use Rattle.reject_book.specs.BookView.{BookView}
use Rattle.range_guess.specs.declared.stretch.Stretch.{Stretch as Group}
use Rattle.window_load.specs.declared.data_read.DataRead.{DataRead}
use Rattle.window_load.specs.declared.data_read.WindowRead.TheVariants as reads
use Rattle.window_load.specs.Reading.{IsReadInWindows}
use Rattle.window_load.specs.Groups.{group_reach}
use Rattle.window_load.specs.Reads.{stop_in}
use Rattle.window_load.specs.Window.{IsFilled, behind_front, reach}
use Rattle.window_load.proofs.GoesOn.{goes_on_and_reaches, still_read}
use Rattle.window_load.proofs.GroupsRead.{read_none, read_more, read_all, read_stopped, some_reject, in_window, are_types, is_keep, read_in_next}
use Rattle.window_load.proofs.GroupWindows.{group_width}
use Rattle.window_load.proofs.GroupTasks.{is_task, numbers_within}
use Rattle.window_load.proofs.ReadSteps.{reads_none, reads_short, answers_on, fill_reaches}
use Rattle.window_load.proofs.WindowSteps.{at_within}
use Rattle.window_load.proofs.groups.read_groups.Goals as goal

pub loop-at-init : goal.loop-at-init
loop-at-init g c =
    let is_ahead : c.group_reach-ahead.result ≡ 0 + group_reach c.args.course.range_size c.args.reader.now.context.now.schema.max_line_size = omega (arith, c.group_reach-ahead.ensures) in
    let fill = c.fill_to.ensures in
    let now = answers_on (reads_none (g.S.Source.left c.args.source.now) (g.S.Source.held c.args.source.now) (g.S.Source.faults c.args.source.now) c.args.window.now c.requires.at_end)
    (g.S.Source.left c.fill_to.new.source) (g.S.Source.held c.fill_to.new.source) (g.S.Source.faults c.fill_to.new.source) c.fill_to.new.self c.fill_to.result None (ap stop_in c.in_ok-fill_to.was)
    (fill_reaches (g.S.Source.left c.args.source.now) (g.S.Source.left c.fill_to.new.source) c.args.window.now c.fill_to.new.self fill.moved fill.same.0 fill.same.1) fill.at_end fill.held fill.count fill.too_large fill.failed in
    record {
      up_to = read_more c.args.reader.now.context.now c.args.course c.requires.some (g.S.Source.left c.args.source.now) c.args.window.now (g.S.Source.left c.args.source.now) c.args.window.now 0 0 c.in_ok-joined.joined (read_none c.args.reader.now.context.now c.args.course c.requires.some (g.S.Source.left c.args.source.now) c.args.window.now c.in_ok-joined.joined c.requires.begins c.in_ok-joined.ensures)
          (g.S.Source.left c.fill_to.new.source) c.fill_to.new.self c.fill_to.ensures.moved c.fill_to.ensures.same.0 c.fill_to.ensures.same.1 c.fill_to.ensures.stays;
      filled = subst (λ n. IsFilled n c.fill_to.new.self) is_ahead c.in_ok-fill_to.ensures.ok;
      near = omega arith;
      reads = now;
    }

pub returns-in_err-joined-clause-reads : goal.returns-in_err-joined-clause-reads
returns-in_err-joined-clause-reads g c =
    reads_short (reads_none (g.S.Source.left c.args.source.now) (g.S.Source.held c.args.source.now) (g.S.Source.faults c.args.source.now) c.args.window.now c.requires.at_end) c.from_residual.result (search rules)

pub returns-in_err-fill_to-clause-reads : goal.returns-in_err-fill_to-clause-reads
returns-in_err-fill_to-clause-reads g c =
    let fill = c.fill_to.ensures in
    let result = c.from_residual-in_err-fill_to.result in
    let told : result ≡ Err c.in_err-fill_to.field-0.0 = search rules in
    answers_on (reads_none (g.S.Source.left c.args.source.now) (g.S.Source.held c.args.source.now) (g.S.Source.faults c.args.source.now) c.args.window.now c.requires.at_end)
    (g.S.Source.left c.fill_to.new.source) (g.S.Source.held c.fill_to.new.source) (g.S.Source.faults c.fill_to.new.source) c.fill_to.new.self c.fill_to.result (stop_in result) (ap stop_in c.in_err-fill_to.was ∙ sym (ap stop_in told))
    (fill_reaches (g.S.Source.left c.args.source.now) (g.S.Source.left c.fill_to.new.source) c.args.window.now c.fill_to.new.self fill.moved fill.same.0 fill.same.1) fill.at_end fill.held fill.count fill.too_large fill.failed

pub group_in-requires-clause-room : goal.group_in-requires-clause-room
group_in-requires-clause-room g c = omega (arith, c.len-in-loop-at.ensures, c.loop-at.invariant.filled.1, c.loop-at.invariant.up_to.most, c.requires.room)

pub group_in-requires-clause-numbers : goal.group_in-requires-clause-numbers
group_in-requires-clause-numbers g c =
    let there : c.loop-at.at < length c.loop-at.window.kept = omega (arith, c.loop-at-test.true, c.len.ensures) in
    let reaches : reach c.loop-at.window ≤ 2 ^ 32 = omega (arith, c.loop-at.invariant.filled.1, c.loop-at.invariant.up_to.most, c.requires.room) in
    numbers_within c.args.course.start c.args.course.range_size c.loop-at.number c.loop-at.at _ c.loop-at.window c.loop-at.invariant.up_to.stands c.requires.some there reaches

pub read_ahead-requires-clause-group : goal.read_ahead-requires-clause-group
read_ahead-requires-clause-group g c κs known =
    let there : c.loop-at.at < length c.loop-at.window.kept = omega (arith, c.loop-at-test.true, c.len.ensures) in
    let reaches : reach c.loop-at.window ≤ 2 ^ 32 = omega (arith, c.loop-at.invariant.filled.1, c.loop-at.invariant.up_to.most, c.requires.room) in
    is_task c.args.reader.now.context.now c.loop-at.window.kept c.loop-at.window.base c.loop-at.at c.len-in-loop-at.result c.args.course.range_size c.loop-at.number c.loop-at.joined.end c.group_in.result
    c.requires.some (omega (arith, there, c.len-in-loop-at.ensures)) c.len-in-loop-at.ensures (numbers_within c.args.course.start c.args.course.range_size c.loop-at.number c.loop-at.at _ c.loop-at.window c.loop-at.invariant.up_to.stands c.requires.some there reaches) (omega (arith, reaches)) c.requires.fits c.group_in.ensures

pub read_ahead-requires-clause-within : goal.read_ahead-requires-clause-within
read_ahead-requires-clause-within g c κs known = c.loop-at.invariant.filled.1

pub read_ahead-requires-clause-at_end : goal.read_ahead-requires-clause-at_end
read_ahead-requires-clause-at_end g c κs known = c.loop-at.invariant.reads.at_end

pub returns-in_err-read-clause-reads : goal.returns-in_err-read-clause-reads
returns-in_err-read-clause-reads g c =
    let within : c.group_in.result.to - 1 ≤ length c.loop-at.window.kept = omega (arith, ap (λ (group : Group). group.to) c.group_in.ensures, c.len-in-loop-at.ensures) in
    let ahead = c.read_ahead.ensures in
    let result = c.from_residual-in_err-read.result in
    let told : result ≡ Err c.in_err-read.field-0.0 = search rules in
    answers_on c.loop-at.invariant.reads (g.S.Source.left c.read_ahead.new.source) (g.S.Source.held c.read_ahead.new.source) (g.S.Source.faults c.read_ahead.new.source) c.read_ahead.new.window c.read_ahead.result (stop_in result) (ap stop_in c.in_err-read.was ∙ sym (ap stop_in told))
    (goes_on_and_reaches (g.S.Source.left c.loop-at.source) (g.S.Source.left c.read_ahead.new.source) (c.group_in.result.to - 1) c.loop-at.window c.read_ahead.new.window ahead.moved within) ahead.at_end ahead.held ahead.count ahead.too_large ahead.failed

pub first_reject-requires : goal.first_reject-requires
first_reject-requires g c =
    let there : c.loop-at.at < length c.loop-at.window.kept = omega (arith, c.loop-at-test.true, c.len.ensures) in
    let is = in_window c.args.reader.now.context.now c.loop-at.window.kept c.loop-at.window.kept c.loop-at.window.base c.loop-at.window.base c.group_in.result c.loop-at.at c.len-in-loop-at.result
    c.args.course.range_size c.loop-at.number c.loop-at.joined.end c.args.course.stop c.in_ok-read.read refl refl c.group_in.ensures c.len-in-loop-at.ensures c.in_ok-read.ensures.ok in
    record {
      some = some_reject c.args.reader.now.context.now c.args.course c.requires.some (g.S.Source.left c.args.source.now) c.args.window.now (g.S.Source.left c.loop-at.source) c.loop-at.window c.loop-at.number c.loop-at.at c.loop-at.joined c.loop-at.invariant.up_to c.loop-at.invariant.filled there c.in_ok-read.read is c.if-read.true c.requires.keep;
    }

pub returns-in_err-reject-clause-reads : goal.returns-in_err-reject-clause-reads
returns-in_err-reject-clause-reads g c =
    let within : c.group_in.result.to - 1 ≤ length c.loop-at.window.kept = omega (arith, ap (λ (group : Group). group.to) c.group_in.ensures, c.len-in-loop-at.ensures) in
    let ahead = c.read_ahead.ensures in
    let now = answers_on c.loop-at.invariant.reads (g.S.Source.left c.read_ahead.new.source) (g.S.Source.held c.read_ahead.new.source) (g.S.Source.faults c.read_ahead.new.source) c.read_ahead.new.window c.read_ahead.result None (ap stop_in c.in_ok-read.was)
    (goes_on_and_reaches (g.S.Source.left c.loop-at.source) (g.S.Source.left c.read_ahead.new.source) (c.group_in.result.to - 1) c.loop-at.window c.read_ahead.new.window ahead.moved within) ahead.at_end ahead.held ahead.count ahead.too_large ahead.failed in reads_short now c.from_residual-in_err-reject.result (search rules)

pub returns-then-read-clause-ok : goal.returns-then-read-clause-ok
returns-then-read-clause-ok g c =
    let there : c.loop-at.at < length c.loop-at.window.kept = omega (arith, c.loop-at-test.true, c.len.ensures) in
    let within : c.group_in.result.to - 1 ≤ length c.loop-at.window.kept = omega (arith, ap (λ (group : Group). group.to) c.group_in.ensures, c.len-in-loop-at.ensures) in
    let is = in_window c.args.reader.now.context.now c.loop-at.window.kept c.loop-at.window.kept c.loop-at.window.base c.loop-at.window.base c.group_in.result c.loop-at.at c.len-in-loop-at.result
    c.args.course.range_size c.loop-at.number c.loop-at.joined.end c.args.course.stop c.in_ok-read.read refl refl c.group_in.ensures c.len-in-loop-at.ensures c.in_ok-read.ensures.ok in
    still_read (g.S.Source.left c.loop-at.source) (g.S.Source.left c.read_ahead.new.source) (c.group_in.result.to - 1) c.loop-at.window c.read_ahead.new.window c.read_ahead.ensures.moved within c.args.reader.now.context.now c.args.course (g.S.Source.left c.args.source.now) c.args.window.now (reads.Stopped c.in_ok-reject.reject)
    (read_stopped c.args.reader.now.context.now c.args.course c.requires.some (g.S.Source.left c.args.source.now) c.args.window.now (g.S.Source.left c.loop-at.source) c.loop-at.window c.loop-at.number c.loop-at.at c.loop-at.joined c.loop-at.invariant.up_to c.loop-at.invariant.filled there c.in_ok-read.read is c.if-read.true c.requires.keep c.in_ok-reject.reject c.in_ok-reject.ensures.ok)

pub returns-then-read-clause-reads : goal.returns-then-read-clause-reads
returns-then-read-clause-reads g c =
    let within : c.group_in.result.to - 1 ≤ length c.loop-at.window.kept = omega (arith, ap (λ (group : Group). group.to) c.group_in.ensures, c.len-in-loop-at.ensures) in
    let ahead = c.read_ahead.ensures in
    let now = answers_on c.loop-at.invariant.reads (g.S.Source.left c.read_ahead.new.source) (g.S.Source.held c.read_ahead.new.source) (g.S.Source.faults c.read_ahead.new.source) c.read_ahead.new.window c.read_ahead.result None (ap stop_in c.in_ok-read.was)
    (goes_on_and_reaches (g.S.Source.left c.loop-at.source) (g.S.Source.left c.read_ahead.new.source) (c.group_in.result.to - 1) c.loop-at.window c.read_ahead.new.window ahead.moved within) ahead.at_end ahead.held ahead.count ahead.too_large ahead.failed in now

pub append-requires-clause-types : goal.append-requires-clause-types
append-requires-clause-types g c = are_types c.args.reader.now.context.now c.args.course c.requires.some (g.S.Source.left c.args.source.now) c.args.window.now (g.S.Source.left c.loop-at.source) c.loop-at.window c.loop-at.number c.loop-at.at c.loop-at.joined c.loop-at.invariant.up_to ∙ sym c.in_ok-read.ensures.ok.part.types

pub append-requires-clause-same : goal.append-requires-clause-same
append-requires-clause-same g c = is_keep c.args.reader.now.context.now c.args.course c.requires.some (g.S.Source.left c.args.source.now) c.args.window.now (g.S.Source.left c.loop-at.source) c.loop-at.window c.loop-at.number c.loop-at.at c.loop-at.joined c.loop-at.invariant.up_to ∙ sym (ap (λ (b : BookView). b.keep) c.in_ok-read.ensures.ok.part.book)

pub returns-in_err-append-clause-reads : goal.returns-in_err-append-clause-reads
returns-in_err-append-clause-reads g c =
    let within : c.group_in.result.to - 1 ≤ length c.loop-at.window.kept = omega (arith, ap (λ (group : Group). group.to) c.group_in.ensures, c.len-in-loop-at.ensures) in
    let ahead = c.read_ahead.ensures in
    let now = answers_on c.loop-at.invariant.reads (g.S.Source.left c.read_ahead.new.source) (g.S.Source.held c.read_ahead.new.source) (g.S.Source.faults c.read_ahead.new.source) c.read_ahead.new.window c.read_ahead.result None (ap stop_in c.in_ok-read.was)
    (goes_on_and_reaches (g.S.Source.left c.loop-at.source) (g.S.Source.left c.read_ahead.new.source) (c.group_in.result.to - 1) c.loop-at.window c.read_ahead.new.window ahead.moved within) ahead.at_end ahead.held ahead.count ahead.too_large ahead.failed in reads_short now c.from_residual-in_err-append.result (search rules)

pub loop-at-preserved : goal.loop-at-preserved
loop-at-preserved g c =
    let there : c.loop-at.at < length c.loop-at.window.kept = omega (arith, c.loop-at-test.true, c.len.ensures) in
    let is = in_window c.args.reader.now.context.now c.loop-at.window.kept c.loop-at.window.kept c.loop-at.window.base c.loop-at.window.base c.group_in.result c.loop-at.at c.len-in-loop-at.result
    c.args.course.range_size c.loop-at.number c.loop-at.joined.end c.args.course.stop c.in_ok-read.read refl refl c.group_in.ensures c.len-in-loop-at.ensures c.in_ok-read.ensures.ok in
    let behind = read_in_next c.args.reader.now.context.now c.args.course c.requires.some (g.S.Source.left c.args.source.now) c.args.window.now (g.S.Source.left c.loop-at.source) c.loop-at.window c.loop-at.number c.loop-at.at c.loop-at.joined c.loop-at.invariant.up_to c.loop-at.invariant.filled there c.in_ok-read.read is c.if-read.false c.append.new.self c.in_ok-append.ensures.ok
    (behind_front (c.group_in.result.to - 1) c.loop-at.window) c.group_in.result c.group_in.ensures c.len-in-loop-at.ensures refl in
    let goes_on = c.read_ahead.ensures.moved in
    let within : c.group_in.result.to - 1 ≤ length c.loop-at.window.kept = omega (arith, ap (λ (group : Group). group.to) c.group_in.ensures, c.len-in-loop-at.ensures) in
    let ahead = c.read_ahead.ensures in
    let now = answers_on c.loop-at.invariant.reads (g.S.Source.left c.read_ahead.new.source) (g.S.Source.held c.read_ahead.new.source) (g.S.Source.faults c.read_ahead.new.source) c.read_ahead.new.window c.read_ahead.result None (ap stop_in c.in_ok-read.was)
    (goes_on_and_reaches (g.S.Source.left c.loop-at.source) (g.S.Source.left c.read_ahead.new.source) (c.group_in.result.to - 1) c.loop-at.window c.read_ahead.new.window ahead.moved within) ahead.at_end ahead.held ahead.count ahead.too_large ahead.failed in
    record {
      up_to = read_more c.args.reader.now.context.now c.args.course c.requires.some (g.S.Source.left c.args.source.now) c.args.window.now (g.S.Source.left c.loop-at.source) (behind_front (c.group_in.result.to - 1) c.loop-at.window) (c.loop-at.number + 1) 1 c.append.new.self behind (g.S.Source.left c.read_ahead.new.source) c.read_ahead.new.window
          goes_on.moved goes_on.base goes_on.most goes_on.stays;
      filled = subst (λ n. IsFilled (1 + n) c.read_ahead.new.window) c.group_reach-ahead.ensures c.in_ok-read.ensures.filled;
      near = omega arith;
      reads = now;
    }

pub returns-clause-ok : goal.returns-clause-ok
returns-clause-ok g c =
    let over : c.loop-at.at ≡ length c.loop-at.window.kept = omega (arith, c.loop-at-test.false, c.len.ensures, at_within c.args.course.start (group_width c.args.course.range_size) c.loop-at.number c.loop-at.at _ c.loop-at.window c.loop-at.invariant.up_to.stands) in
    subst (λ (d : DataRead). IsReadInWindows c.args.reader.now.context.now c.args.course (g.S.Source.left c.args.source.now) (g.S.Source.left c.loop-at.source) c.args.window.now c.loop-at.window (reads.All d)) (sym c.of-read.ensures)
    (read_all c.args.reader.now.context.now c.args.course c.requires.some (g.S.Source.left c.args.source.now) c.args.window.now (g.S.Source.left c.loop-at.source) c.loop-at.window c.loop-at.number c.loop-at.at c.loop-at.joined c.loop-at.invariant.up_to c.loop-at.invariant.filled over
    c.requires.begins _ (ap (λ n. n - c.args.course.start) c.reach.ensures))

pub returns-clause-reads : goal.returns-clause-reads
returns-clause-reads g c = c.loop-at.invariant.reads
