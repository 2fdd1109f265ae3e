use Rattle.std.proofs.Common.{◌≡◌, ℕ, ◌+◌, ◌≤◌, ◌∙◌, List, ap, length, take, drop, arith}
use Rattle.std.proofs.lemmas.List.{length-take-le, take_rest}
use Rattle.std.proofs.lemmas.Result.{MatchResult-from_err}
use Rattle.part_cuts.specs.Reading.{Reading, reading}
use Rattle.part_cuts.proofs.ReadingLaws.{goes_on, reading_bytes}
use Rattle.part_cuts.proofs.cuts.Cuts.pass.Goals as goal

-- so many bytes more are read
read_more : (r p q : Reading) (bytes rest : List ℕ) (at n : ℕ) → rest ≡ drop at bytes → p ≡ reading r (take at bytes) (drop at bytes) → q ≡ reading p (take n rest) (drop n rest) →
    q ≡ reading r (take (at + n) bytes) (drop (at + n) bytes)
read_more r p q bytes rest at n is_rest before is = is ∙ (ap (λ (l : List ℕ). reading p (take n l) (drop n l)) is_rest ∙ goes_on r p bytes at n before)

pub returns-in_err-at-clause-err : goal.returns-in_err-at-clause-err
returns-in_err-at-clause-err c =
    let told = c.in_err-at.ensures in
    MatchResult-from_err c.from_residual.result _ _ c.from_residual.ensures.0
    (λ y. (
      c.loop-at.at + told.0,
      omega (arith, told.1, c.loop-at-test.true),
      read_more c.args.self.now c.loop-at.self c.pass_part.new.self c.args.bytes.now _ c.loop-at.at told.0 (take_rest c.args.bytes.now c.loop-at.at) c.loop-at.invariant.read told.2,
    ))

pub loop-at-preserved : goal.loop-at-preserved
loop-at-preserved c =
    let n = c.in_ok-at.field-0 in
    let told = c.in_ok-at.ensures in
    let read = read_more c.args.self.now c.loop-at.self c.pass_part.new.self c.args.bytes.now _ c.loop-at.at n (take_rest c.args.bytes.now c.loop-at.at) c.loop-at.invariant.read told.2 in
    let high : c.loop-at.at + n ≤ c.args.count = omega (arith, told.1, c.loop-at-test.true) in
    let all = length-take-le (c.loop-at.at + n) c.args.bytes.now (omega (arith, high, c.requires.within)) in
    let place : c.pass_part.new.self.tally.bytes ≡ c.args.self.now.tally.bytes + length (take (c.loop-at.at + n) c.args.bytes.now) =
    ap (λ (r : Reading). r.tally.bytes) read ∙ reading_bytes c.args.self.now (take (c.loop-at.at + n) c.args.bytes.now) (drop (c.loop-at.at + n) c.args.bytes.now) in
    record { high = high; read = read; fits = omega (arith, place, all, high, c.requires.fits) }

pub returns-clause-bytes : goal.returns-clause-bytes
returns-clause-bytes c =
    let at = c.loop-at.at in
    let all = length-take-le at c.args.bytes.now (omega (arith, c.loop-at.invariant.high, c.requires.within)) in
    let place : c.loop-at.self.tally.bytes ≡ c.args.self.now.tally.bytes + length (take at c.args.bytes.now) =
    ap (λ (r : Reading). r.tally.bytes) c.loop-at.invariant.read ∙ reading_bytes c.args.self.now (take at c.args.bytes.now) (drop at c.args.bytes.now) in
    omega (arith, place, all, c.loop-at.invariant.high, c.loop-at-test.false)
