use Rattle.std.proofs.Common.{inl, inr, ◌⊎◌, ◌≡◌, ◌+◌, ◌-◌, ◌<◌, ◌≤◌, true, sym, subst, ap, ◌∙◌, length, arith, rules}
use Rattle.std.specs.Prelude.{None, Err}
use Rattle.range_guess.specs.declared.span.Span.{Span}
use Rattle.range_scan.specs.declared.joined.Joined.{Joined}
use Rattle.window_load.specs.declared.data_read.DataRead.{DataRead}
use Rattle.window_load.specs.declared.data_read.WindowRead.TheVariants as reads
use Rattle.window_load.specs.Ranges.{range_reach}
use Rattle.window_load.specs.Reading.{IsReadInWindows}
use Rattle.window_load.specs.Reads.{stop_in}
use Rattle.window_load.specs.Window.{IsFilled}
use Rattle.window_load.proofs.ReadSteps.{reads_none, reads_short, answers_on, drops_on, fill_reaches}
use Rattle.window_load.proofs.RangesRead.{IsUpToRange, read_none, read_more, read_all, read_in_next, read_stopped, in_window, enough_in, are_types, is_keep}
use Rattle.window_load.proofs.WindowSteps.{at_within, at_below}
use Rattle.reject_book.specs.declared.book.Keep.TheVariants.{First}
use Rattle.window_load.proofs.ranges.read_ranges.Goals.{else-course-via-then-course+else-len-gt0, else-course-via-else-course, then-long, else-long, then-long-2, else-long-2}
use Rattle.window_load.proofs.ranges.read_ranges.Goals as goal

pub loop-far-init : goal.loop-far-init
loop-far-init g c = record {
  up_to = read_none c.args.scanner.now.context.now c.args.course c.requires.some (g.S.Source.left c.args.source.now) c.args.window.now c.in_ok-joined.joined c.requires.begins c.in_ok-joined.ensures;
  near = omega arith;
  reads = reads_none (g.S.Source.left c.args.source.now) (g.S.Source.held c.args.source.now) (g.S.Source.faults c.args.source.now) c.args.window.now c.requires.at_end;
}

pub returns-in_err-joined-clause-reads : goal.returns-in_err-joined-clause-reads
returns-in_err-joined-clause-reads g c =
    reads_short (reads_none (g.S.Source.left c.args.source.now) (g.S.Source.held c.args.source.now) (g.S.Source.faults c.args.source.now) c.args.window.now c.requires.at_end) c.from_residual.result (search rules)

pub returns-in_err-fill_to-clause-reads : goal.returns-in_err-fill_to-clause-reads
returns-in_err-fill_to-clause-reads g c =
    let fill = c.fill_to.ensures in
    let result = c.from_residual-in_err-fill_to.result in
    let told : result ≡ Err c.in_err-fill_to.field-0.0 = search rules in
    answers_on c.loop-far.invariant.reads (g.S.Source.left c.fill_to.new.source) (g.S.Source.held c.fill_to.new.source) (g.S.Source.faults c.fill_to.new.source) c.fill_to.new.self c.fill_to.result (stop_in result) (ap stop_in c.in_err-fill_to.was ∙ sym (ap stop_in told))
    (fill_reaches (g.S.Source.left c.loop-far.source) (g.S.Source.left c.fill_to.new.source) c.loop-far.window c.fill_to.new.self fill.moved fill.same.0 fill.same.1) fill.at_end fill.held fill.count fill.too_large fill.failed

pub returns-then-at-len-clause-reads : goal.returns-then-at-len-clause-reads
returns-then-at-len-clause-reads g c =
    let fill = c.fill_to.ensures in
    let now = answers_on c.loop-far.invariant.reads (g.S.Source.left c.fill_to.new.source) (g.S.Source.held c.fill_to.new.source) (g.S.Source.faults c.fill_to.new.source) c.fill_to.new.self c.fill_to.result None (ap stop_in c.in_ok-fill_to.was)
    (fill_reaches (g.S.Source.left c.loop-far.source) (g.S.Source.left c.fill_to.new.source) c.loop-far.window c.fill_to.new.self fill.moved fill.same.0 fill.same.1) fill.at_end fill.held fill.count fill.too_large fill.failed in now

pub returns-in_err-add_range-clause-reads : goal.returns-in_err-add_range-clause-reads
returns-in_err-add_range-clause-reads g c =
    let fill = c.fill_to.ensures in
    let now = answers_on c.loop-far.invariant.reads (g.S.Source.left c.fill_to.new.source) (g.S.Source.held c.fill_to.new.source) (g.S.Source.faults c.fill_to.new.source) c.fill_to.new.self c.fill_to.result None (ap stop_in c.in_ok-fill_to.was)
    (fill_reaches (g.S.Source.left c.loop-far.source) (g.S.Source.left c.fill_to.new.source) c.loop-far.window c.fill_to.new.self fill.moved fill.same.0 fill.same.1) fill.at_end fill.held fill.count fill.too_large fill.failed in
    reads_short now c.from_residual-in_err-add_range.result (search rules)

pub returns-in_err-reject-clause-reads : goal.returns-in_err-reject-clause-reads
returns-in_err-reject-clause-reads g c =
    let fill = c.fill_to.ensures in
    let now = answers_on c.loop-far.invariant.reads (g.S.Source.left c.fill_to.new.source) (g.S.Source.held c.fill_to.new.source) (g.S.Source.faults c.fill_to.new.source) c.fill_to.new.self c.fill_to.result None (ap stop_in c.in_ok-fill_to.was)
    (fill_reaches (g.S.Source.left c.loop-far.source) (g.S.Source.left c.fill_to.new.source) c.loop-far.window c.fill_to.new.self fill.moved fill.same.0 fill.same.1) fill.at_end fill.held fill.count fill.too_large fill.failed in
    reads_short now c.from_residual-in_err-reject.result (search rules)

pub returns-then-len-gt0-clause-reads : goal.returns-then-len-gt0-clause-reads
returns-then-len-gt0-clause-reads g c =
    let fill = c.fill_to.ensures in
    let now = answers_on c.loop-far.invariant.reads (g.S.Source.left c.fill_to.new.source) (g.S.Source.held c.fill_to.new.source) (g.S.Source.faults c.fill_to.new.source) c.fill_to.new.self c.fill_to.result None (ap stop_in c.in_ok-fill_to.was)
    (fill_reaches (g.S.Source.left c.loop-far.source) (g.S.Source.left c.fill_to.new.source) c.loop-far.window c.fill_to.new.self fill.moved fill.same.0 fill.same.1) fill.at_end fill.held fill.count fill.too_large fill.failed in now

pub add_range-requires-clause-types : goal.add_range-requires-clause-types
add_range-requires-clause-types g c κs within =
    let so_far = read_more c.args.scanner.now.context.now c.args.course c.requires.some (g.S.Source.left c.args.source.now) c.args.window.now (g.S.Source.left c.loop-far.source) c.loop-far.window
    c.loop-far.number c.loop-far.at c.loop-far.joined c.loop-far.invariant.up_to (g.S.Source.left c.fill_to.new.source) c.fill_to.new.self
    c.fill_to.ensures.moved c.fill_to.ensures.same.0 c.fill_to.ensures.same.1 c.fill_to.ensures.stays in
    are_types c.args.scanner.now.context.now c.args.course c.requires.some (g.S.Source.left c.args.source.now) c.args.window.now (g.S.Source.left c.fill_to.new.source) c.fill_to.new.self c.loop-far.number c.loop-far.at c.loop-far.joined so_far

pub add_range-requires-clause-keep : goal.add_range-requires-clause-keep
add_range-requires-clause-keep g c κs within =
    let so_far = read_more c.args.scanner.now.context.now c.args.course c.requires.some (g.S.Source.left c.args.source.now) c.args.window.now (g.S.Source.left c.loop-far.source) c.loop-far.window
    c.loop-far.number c.loop-far.at c.loop-far.joined c.loop-far.invariant.up_to (g.S.Source.left c.fill_to.new.source) c.fill_to.new.self
    c.fill_to.ensures.moved c.fill_to.ensures.same.0 c.fill_to.ensures.same.1 c.fill_to.ensures.stays in
    is_keep c.args.scanner.now.context.now c.args.course c.requires.some (g.S.Source.left c.args.source.now) c.args.window.now (g.S.Source.left c.fill_to.new.source) c.fill_to.new.self c.loop-far.number c.loop-far.at c.loop-far.joined so_far

pub returns-then-at-len-clause-ok : goal.returns-then-at-len-clause-ok
returns-then-at-len-clause-ok g c =
    let so_far = read_more c.args.scanner.now.context.now c.args.course c.requires.some (g.S.Source.left c.args.source.now) c.args.window.now (g.S.Source.left c.loop-far.source) c.loop-far.window
    c.loop-far.number c.loop-far.at c.loop-far.joined c.loop-far.invariant.up_to (g.S.Source.left c.fill_to.new.source) c.fill_to.new.self
    c.fill_to.ensures.moved c.fill_to.ensures.same.0 c.fill_to.ensures.same.1 c.fill_to.ensures.stays in
    let line = c.if-long.line in
    let filled : IsFilled (c.loop-far.at + range_reach c.args.course.range_size line) c.fill_to.new.self =
    subst (λ n. IsFilled (c.loop-far.at + n) c.fill_to.new.self) c.range_reach.ensures c.in_ok-fill_to.ensures.ok in
    subst (λ (d : DataRead). IsReadInWindows c.args.scanner.now.context.now c.args.course (g.S.Source.left c.args.source.now) (g.S.Source.left c.fill_to.new.source) c.args.window.now c.fill_to.new.self (reads.All d)) (sym c.of-read.ensures)
    (read_all c.args.scanner.now.context.now c.args.course c.requires.some (g.S.Source.left c.args.source.now) c.args.window.now (g.S.Source.left c.fill_to.new.source) c.fill_to.new.self c.loop-far.number c.loop-far.at c.loop-far.joined so_far line filled (omega (arith, c.if-at-len.true, c.len.ensures))
    c.requires.begins _ (ap (λ n. n - c.args.course.start) c.reach.ensures))

pub returns-then-len-gt0-clause-ok : goal.returns-then-len-gt0-clause-ok
returns-then-len-gt0-clause-ok g c =
    let so_far = read_more c.args.scanner.now.context.now c.args.course c.requires.some (g.S.Source.left c.args.source.now) c.args.window.now (g.S.Source.left c.loop-far.source) c.loop-far.window
    c.loop-far.number c.loop-far.at c.loop-far.joined c.loop-far.invariant.up_to (g.S.Source.left c.fill_to.new.source) c.fill_to.new.self
    c.fill_to.ensures.moved c.fill_to.ensures.same.0 c.fill_to.ensures.same.1 c.fill_to.ensures.stays in
    let line = c.if-long.line in
    let filled : IsFilled (c.loop-far.at + range_reach c.args.course.range_size line) c.fill_to.new.self =
    subst (λ n. IsFilled (c.loop-far.at + n) c.fill_to.new.self) c.range_reach.ensures c.in_ok-fill_to.ensures.ok in
    let there : c.loop-far.at < length c.fill_to.new.self.kept = at_below c.loop-far.at c.len.result (length c.fill_to.new.self.kept) c.if-at-len.false c.len.ensures
    (at_within c.args.course.start c.args.course.range_size c.loop-far.number c.loop-far.at _ c.fill_to.new.self so_far.stands) in
    let adds = in_window c.args.scanner.now.context.now c.fill_to.new.self.kept c.fill_to.new.self.base c.span_in-span.result
    c.loop-far.at c.len-in-loop-far.result c.args.course.range_size c.loop-far.number c.loop-far.joined c.add_range.new.joined
    c.span_in-span.ensures c.len-in-loop-far.ensures (c.in_ok-add_range.ensures.ok c.if-not-branch.false) in
    let long : c.if-far.long ≡ true → c.args.scanner.now.context.now.schema.max_line_size ≤ line = elim c.if-long.branch as (λ _. c.if-far.long ≡ true → c.args.scanner.now.context.now.schema.max_line_size ≤ line) [
      | then-long v ↦ (λ told. omega (arith, v.line-is))
      | else-long v ↦ (λ told. absurd (let wrong : ⊥ = (let off = v.if-long.false in cc) in wrong))
    ] in
    let sure_if : c.if-long-2.sure ≡ true → (c.if-far.long ≡ true) ⊎ (c.fill_to.new.self.ended ≡ true) = elim c.if-long-2.branch as (λ _. c.if-long-2.sure ≡ true → (c.if-far.long ≡ true) ⊎ (c.fill_to.new.self.ended ≡ true)) [
      | then-long-2 v ↦ (λ told. inl v.if-long-2.true)
      | else-long-2 v ↦ (λ told. inr (sym v.ended-sure.ensures ∙ sym v.sure-is ∙ told))
    ] in
    let enough = enough_in c.args.scanner.now.context.now c.fill_to.new.self c.span_in-span.result c.loop-far.at c.len-in-loop-far.result c.args.course.range_size c.loop-far.number c.loop-far.joined.end
    line c.if-far.long c.if-long-2.sure c.span_in-span.ensures c.len-in-loop-far.ensures long sure_if (c.in_ok-add_range.ensures.value c.if-not-branch.false) in
    read_stopped c.args.scanner.now.context.now c.args.course c.requires.some (g.S.Source.left c.args.source.now) c.args.window.now (g.S.Source.left c.fill_to.new.source) c.fill_to.new.self c.loop-far.number c.loop-far.at c.loop-far.joined so_far line filled there enough c.add_range.new.joined adds c.if-course.true (c.requires.keep c.if-course.true) (omega (arith, c.if-len-gt0.true, c.len-then-course.ensures)) c.in_ok-reject.reject c.in_ok-reject.ensures.ok

pub loop-far-preserved : goal.loop-far-preserved
loop-far-preserved g c =
    let so_far = read_more c.args.scanner.now.context.now c.args.course c.requires.some (g.S.Source.left c.args.source.now) c.args.window.now (g.S.Source.left c.loop-far.source) c.loop-far.window
    c.loop-far.number c.loop-far.at c.loop-far.joined c.loop-far.invariant.up_to (g.S.Source.left c.fill_to.new.source) c.fill_to.new.self
    c.fill_to.ensures.moved c.fill_to.ensures.same.0 c.fill_to.ensures.same.1 c.fill_to.ensures.stays in
    let line = c.if-long.line in
    let filled : IsFilled (c.loop-far.at + range_reach c.args.course.range_size line) c.fill_to.new.self =
    subst (λ n. IsFilled (c.loop-far.at + n) c.fill_to.new.self) c.range_reach.ensures c.in_ok-fill_to.ensures.ok in
    let there : c.loop-far.at < length c.fill_to.new.self.kept = at_below c.loop-far.at c.len.result (length c.fill_to.new.self.kept) c.if-at-len.false c.len.ensures
    (at_within c.args.course.start c.args.course.range_size c.loop-far.number c.loop-far.at _ c.fill_to.new.self so_far.stands) in
    let adds = in_window c.args.scanner.now.context.now c.fill_to.new.self.kept c.fill_to.new.self.base c.span_in-span.result
    c.loop-far.at c.len-in-loop-far.result c.args.course.range_size c.loop-far.number c.loop-far.joined c.add_range.new.joined
    c.span_in-span.ensures c.len-in-loop-far.ensures (c.in_ok-add_range.ensures.ok c.if-not-branch.false) in
    let long : c.if-far.long ≡ true → c.args.scanner.now.context.now.schema.max_line_size ≤ line = elim c.if-long.branch as (λ _. c.if-far.long ≡ true → c.args.scanner.now.context.now.schema.max_line_size ≤ line) [
      | then-long v ↦ (λ told. omega (arith, v.line-is))
      | else-long v ↦ (λ told. absurd (let wrong : ⊥ = (let off = v.if-long.false in cc) in wrong))
    ] in
    let sure_if : c.if-long-2.sure ≡ true → (c.if-far.long ≡ true) ⊎ (c.fill_to.new.self.ended ≡ true) = elim c.if-long-2.branch as (λ _. c.if-long-2.sure ≡ true → (c.if-far.long ≡ true) ⊎ (c.fill_to.new.self.ended ≡ true)) [
      | then-long-2 v ↦ (λ told. inl v.if-long-2.true)
      | else-long-2 v ↦ (λ told. inr (sym v.ended-sure.ensures ∙ sym v.sure-is ∙ told))
    ] in
    let enough = enough_in c.args.scanner.now.context.now c.fill_to.new.self c.span_in-span.result c.loop-far.at c.len-in-loop-far.result c.args.course.range_size c.loop-far.number c.loop-far.joined.end
    line c.if-far.long c.if-long-2.sure c.span_in-span.ensures c.len-in-loop-far.ensures long sure_if (c.in_ok-add_range.ensures.value c.if-not-branch.false) in
    let good : c.args.course.stop ≡ true → (c.args.scanner.now.context.now.keep ≡ First 1) × (length c.add_range.new.joined.book.stored ≤ 0) =
    λ stops. (
      c.requires.keep stops,
      elim c.else-course.branch as (λ _. length c.add_range.new.joined.book.stored ≤ 0) [
        | else-course-via-then-course+else-len-gt0 v ↦ omega (arith, v.if-len-gt0.false, v.len-then-course.ensures)
        | else-course-via-else-course v ↦ absurd (let wrong : ⊥ = (let off = v.if-course.false in cc) in wrong)
      ],
    ) in
    let fill = c.fill_to.ensures in
    let now = answers_on c.loop-far.invariant.reads (g.S.Source.left c.fill_to.new.source) (g.S.Source.held c.fill_to.new.source) (g.S.Source.faults c.fill_to.new.source) c.fill_to.new.self c.fill_to.result None (ap stop_in c.in_ok-fill_to.was)
    (fill_reaches (g.S.Source.left c.loop-far.source) (g.S.Source.left c.fill_to.new.source) c.loop-far.window c.fill_to.new.self fill.moved fill.same.0 fill.same.1) fill.at_end fill.held fill.count fill.too_large fill.failed in
    let passed : c.span_in-span.result.to - 1 ≤ length c.fill_to.new.self.kept = omega (arith, ap (λ (s : Span). s.to) c.span_in-span.ensures, c.len-in-loop-far.ensures) in record {
      up_to = read_in_next c.args.scanner.now.context.now c.args.course c.requires.some (g.S.Source.left c.args.source.now) c.args.window.now (g.S.Source.left c.fill_to.new.source) c.fill_to.new.self c.loop-far.number c.loop-far.at c.loop-far.joined so_far line filled there enough c.add_range.new.joined adds good
          c.drop_front.new.self c.span_in-span.result c.span_in-span.ensures c.len-in-loop-far.ensures c.drop_front.ensures;
      near = omega arith;
      reads = drops_on now (c.span_in-span.result.to - 1) c.drop_front.new.self c.drop_front.ensures passed;
    }

pub loop-far-preserved-then-not-branch : goal.loop-far-preserved-then-not-branch
loop-far-preserved-then-not-branch g c =
    let so_far = read_more c.args.scanner.now.context.now c.args.course c.requires.some (g.S.Source.left c.args.source.now) c.args.window.now (g.S.Source.left c.loop-far.source) c.loop-far.window
    c.loop-far.number c.loop-far.at c.loop-far.joined c.loop-far.invariant.up_to (g.S.Source.left c.fill_to.new.source) c.fill_to.new.self
    c.fill_to.ensures.moved c.fill_to.ensures.same.0 c.fill_to.ensures.same.1 c.fill_to.ensures.stays in
    let same : c.add_range.new.joined ≡ c.loop-far.joined = (c.in_ok-add_range.ensures.same c.if-not-branch.true).1 in
    let fill = c.fill_to.ensures in
    let now = answers_on c.loop-far.invariant.reads (g.S.Source.left c.fill_to.new.source) (g.S.Source.held c.fill_to.new.source) (g.S.Source.faults c.fill_to.new.source) c.fill_to.new.self c.fill_to.result None (ap stop_in c.in_ok-fill_to.was)
    (fill_reaches (g.S.Source.left c.loop-far.source) (g.S.Source.left c.fill_to.new.source) c.loop-far.window c.fill_to.new.self fill.moved fill.same.0 fill.same.1) fill.at_end fill.held fill.count fill.too_large fill.failed in
    record {
      up_to = subst (λ (joined : Joined). IsUpToRange c.args.scanner.now.context.now c.args.course (g.S.Source.left c.args.source.now) (g.S.Source.left c.fill_to.new.source) c.args.window.now c.fill_to.new.self c.loop-far.number c.loop-far.at joined)
          (sym same) so_far;
      near = c.loop-far.invariant.near;
      reads = now;
    }
