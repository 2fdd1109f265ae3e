use Rattle.std.proofs.Common.{◌≡◌, ◌≤◌, ◌∙◌, true, false, Ok, length, refl, ap, ap₂, arith}
use Rattle.std.proofs.lemmas.List.{drop_all, take_all}
use Rattle.part_cuts.specs.declared.tally.Tally.{Tally}
use Rattle.part_cuts.specs.Reading.{reading}
use Rattle.file_split.proofs.PassedOn.{all_passed, front_passed, more_came, none_passed, over_passed}
use Rattle.file_split.proofs.file_piece.FilePiece.pass_all.Goals as goal

pub loop-self-init : goal.loop-self-init
loop-self-init g c = record {
  passed = none_passed c.args.self.now (g.S.Source.left c.args.source.now) c.args.cuts.now;
  stays = λ e. e;
  fits = c.requires.within;
  at_end = c.requires.at_end;
  held = refl;
  count = omega arith;
}

pub loop-self-preserved : goal.loop-self-preserved
loop-self-preserved g c =
    let left = g.S.Source.left in
    let first = c.args.self.now in
    let before = left c.args.source.now in
    let going : ¬ (first.ended ≡ true) = λ e. (let still : c.loop-self.self.ended ≡ true = c.loop-self.invariant.stays e in let wrong : ⊥ = cc in wrong) in
    let gone = front_passed first before c.args.cuts.now (left c.loop-self.source) c.loop-self.cuts c.loop-self.self.bytes c.loop-self.invariant.passed
    c.pass_front.new.cuts c.pass_front.new.self.bytes c.in_ok-pass_front.ensures.kept c.in_ok-pass_front.ensures.read c.in_ok-pass_front.ensures.bytes in
    let place : c.tally.result.bytes ≡ c.pass_front.new.cuts.tally.bytes = ap (λ (t : Tally). t.bytes) c.tally.ensures in
    let keeps : c.read_next.result ≡ Ok true = cc in
    record {
      passed = more_came first before c.args.cuts.now (left c.loop-self.source) c.pass_front.new.cuts c.pass_front.new.self.bytes gone
          (left c.read_next.new.source) c.read_next.new.self.bytes going c.read_next.ensures.moved;
      stays = λ e. absurd (going e);
      fits = omega (arith, place, c.read_next.ensures.within keeps);
      at_end = c.read_next.ensures.at_end;
      held = c.read_next.ensures.held ∙ c.loop-self.invariant.held;
      count = omega (arith, c.read_next.ensures.count, c.loop-self.invariant.count);
    }

pub returns-then-not-branch-clause-ok : goal.returns-then-not-branch-clause-ok
returns-then-not-branch-clause-ok g c =
    let left = g.S.Source.left in
    let first = c.args.self.now in
    let before = left c.args.source.now in
    let going : ¬ (first.ended ≡ true) = λ e. (let still : c.loop-self.self.ended ≡ true = c.loop-self.invariant.stays e in let wrong : ⊥ = cc in wrong) in
    let gone = front_passed first before c.args.cuts.now (left c.loop-self.source) c.loop-self.cuts c.loop-self.self.bytes c.loop-self.invariant.passed
    c.pass_front.new.cuts c.pass_front.new.self.bytes c.in_ok-pass_front.ensures.kept c.in_ok-pass_front.ensures.read c.in_ok-pass_front.ensures.bytes in
    let came = more_came first before c.args.cuts.now (left c.loop-self.source) c.pass_front.new.cuts c.pass_front.new.self.bytes gone
    (left c.read_next.new.source) c.read_next.new.self.bytes going c.read_next.ensures.moved in
    let place : c.tally.result.bytes ≡ c.pass_front.new.cuts.tally.bytes = ap (λ (t : Tally). t.bytes) c.tally.ensures in
    let passes : c.read_next.result ≡ Ok false = cc in
    over_passed first before c.args.cuts.now (left c.read_next.new.source) c.pass_front.new.cuts c.read_next.new.self.bytes came
    c.pass_front.new.cuts (omega (arith, c.requires.within)) (omega (arith, place, c.read_next.ensures.over passes))

pub returns-clause-ok : goal.returns-clause-ok
returns-clause-ok g c =
    let left = g.S.Source.left in
    let kept = c.loop-self.self.bytes in
    let full : length kept ≤ c.len.result = omega (arith, c.len.ensures) in
    all_passed c.args.self.now (left c.args.source.now) c.args.cuts.now (left c.loop-self.source) c.loop-self.cuts kept c.loop-self.invariant.passed
    c.pass.new.cuts (c.loop-self.invariant.at_end c.loop-self-test.false) c.loop-self.invariant.fits
    (c.in_ok-pass.ensures.ok ∙ ap₂ (reading c.loop-self.cuts) (take_all c.len.result kept full) (drop_all c.len.result kept full))
