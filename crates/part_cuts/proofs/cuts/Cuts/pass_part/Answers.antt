use Rattle.std.proofs.Common.{◌≡◌, ◌+◌, ◌-◌, ◌<◌, ◌∙◌, ap, length, take, drop, arith}
use Rattle.std.proofs.lemmas.List.{length-drop, length-take-le}
use Rattle.std.proofs.lemmas.Result.{MatchResult-from_err}
use Rattle.part_cuts.specs.Passed.{passed}
use Rattle.part_cuts.specs.Reading.{Reading, begun}
use Rattle.part_cuts.proofs.PartLaws.{first_byte}
use Rattle.part_cuts.proofs.ReadingLaws.{reading_bytes}
use Rattle.part_cuts.proofs.cuts.Cuts.pass_part.Goals as goal

pub returns-in_err-begin : goal.returns-in_err-begin
returns-in_err-begin c =
    MatchResult-from_err c.from_residual.result _ _ c.from_residual.ensures.0
    (λ y. (c.pass_quiet-at.result, c.pass_quiet-at.ensures.high, c.in_err-begin.ensures.err ∙ c.pass_quiet-at.ensures.read))

pub returns : goal.returns
returns c =
    let at = c.pass_quiet-at.result in
    let below : at < c.args.count = omega (arith, c.pass_quiet-at.ensures.high, c.if-at-count.false) in
    let one : (at + 1) - at ≡ 1 = omega arith in (
      omega arith,
      omega (arith, below),
      c.go_over.ensures ∙ (ap (λ n. passed c.begin.new.self (take n (drop at c.args.bytes.now))) one
          ∙ (ap (λ r. passed r (take 1 (drop at c.args.bytes.now))) c.in_ok-begin.ensures.ok
          ∙ first_byte c.args.self.now c.pass_quiet-at.new.self c.args.bytes.now at (omega (arith, below, c.requires.within)) c.pass_quiet-at.ensures.read (c.pass_quiet-at.ensures.part below))),
    )

pub go_over-requires : goal.go_over-requires
go_over-requires c =
    let at = c.pass_quiet-at.result in
    let bytes = c.args.bytes.now in
    let below : at < c.args.count = omega (arith, c.pass_quiet-at.ensures.high, c.if-at-count.false) in
    let front : length (take at bytes) ≡ at = length-take-le at bytes (omega (arith, below, c.requires.within)) in
    let left : length (drop at bytes) ≡ length bytes - at = length-drop at bytes in
    let one : length (take ((at + 1) - at) (drop at bytes)) ≡ (at + 1) - at = length-take-le _ (drop at bytes) (omega (arith, left, below, c.requires.within)) in
    let place : c.begin.new.self.tally.bytes ≡ c.args.self.now.tally.bytes + length (take at bytes) =
    ap (λ (r : Reading). r.tally.bytes) (c.in_ok-begin.ensures.ok ∙ ap begun c.pass_quiet-at.ensures.read) ∙ reading_bytes c.args.self.now (take at bytes) (drop at bytes) in
    record { within = omega (arith, place, front, one, below, c.requires.fits) }
