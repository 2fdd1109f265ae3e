use Rattle.std.proofs.Common.{◌≡◌, ◌<◌, ◌+◌, ℕ, List, ap, sym, ◌∙◌, subst, arith}
use Rattle.range_guess.specs.declared.span.Span.{Span}
use Rattle.range_scan.specs.Scanned.{Scanned}
use Rattle.range_guess.specs.declared.stretch.Stretch.{Stretch}
use Rattle.range_guess.specs.Stretch.{stretch_count, span_of}
use Rattle.pipe_load.specs.Layout.{base_of, stretch_of, stretch_len}
use Rattle.pipe_load.specs.Scanning.{guessed_part}
use Rattle.pipe_load.specs.Joining.{AddsRanges, GuessedFrom}
use Rattle.pipe_load.proofs.WindowRanges.{AddsNext, adds_more, adds_none, parts_next}
use Rattle.pipe_load.proofs.scanner.Scanner.add_window.Goals as goal

pub loop-range-init : goal.loop-range-init
loop-range-init g c = record {
  joined = adds_none _ _ _ c.args.joined.now c.requires.types c.requires.keep;
  parts = c.requires.kept.is;
}

pub loop-range-preserved : goal.loop-range-preserved
loop-range-preserved g c =
    let inv = c.loop-range.invariant in
    let context = c.args.self.now.ranges.context.now in
    let l = c.args.self.now.layout in
    let w = c.args.kept.window in
    let n = c.loop-range.range in
    let value = c.in_ok-base.ensures.value in
    let count : n < stretch_count c.in_ok-base.stretch = let t = c.loop-range-test.true in let e = c.count-range-end.ensures in omega (arith, t, e) in
    let below : n < stretch_len l w = subst (λ (s : Stretch). n < stretch_count s) value count in
    let adds : AddsNext context w.bytes (base_of l w) (span_of (stretch_of l w) n) c.loop-range.joined c.add_range.new.joined =
    subst (λ (y : List ℕ × ℕ × Span). AddsNext context y.0 y.1 y.2 c.loop-range.joined c.add_range.new.joined)
    (λ i. (c.bytes.ensures i, c.in_ok-base.ensures.base i, (c.span_of-span.ensures ∙ ap (λ (s : Stretch). span_of s n) value) i)) c.in_ok-add_range.ensures in
    record {
      joined = adds_more context l w n c.args.joined.now c.loop-range.joined c.add_range.new.joined c.args.self.now.lies below inv.joined adds;
      parts = subst (GuessedFrom context l w (n + 1)) (sym {A = List Scanned} c.pop_front-part.ensures.rest) (parts_next (guessed_part context l w) n _ inv.parts);
    }

pub returns : goal.returns
returns g c =
    let inv = c.loop-range.invariant in
    let l = c.args.self.now.layout in
    let w = c.args.kept.window in
    let n = c.loop-range.range in
    let count : n ≡ stretch_count c.in_ok-base.stretch = let t = c.loop-range-test.false in let e = c.count-range-end.ensures in omega (arith, t, e) in
    let all : n ≡ stretch_len l w = count ∙ ap stretch_count c.in_ok-base.ensures.value in
    subst (λ m. AddsRanges c.args.self.now.ranges.context.now l w m c.args.joined.now c.loop-range.joined) all inv.joined
