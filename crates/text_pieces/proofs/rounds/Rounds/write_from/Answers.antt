use Rattle.std.proofs.Common.{◌≡◌, ◌++◌, drop, subst, sym, ap, ◌∙◌, append-nil, arith}
use Rattle.std.specs.Prelude.{slice_range}
use Rattle.std.specs.List.{concat}
use Rattle.text_pieces.specs.declared.round.Round.{Round}
use Rattle.text_pieces.specs.declared.desks.Desks.{Desks}
use Rattle.text_pieces.specs.Blocks.{AreDesks, IsRound}
use Rattle.text_pieces.specs.Writes.{HasWritten}
use Rattle.text_pieces.proofs.RoundSteps.{lines-left, no-lines-left}
use Rattle.text_pieces.proofs.WriteSteps.{last_written, more_written, told_on}
use Rattle.text_pieces.proofs.rounds.Rounds.write_from.Goals as goal

pub returns-in_err-make_beside : goal.returns-in_err-make_beside
returns-in_err-make_beside g c =
    let lines = g.T.RowLines.lines c.args.rows.now in
    let before = c.loop-self.invariant in
    let round : Round = c.loop-self.self.ready.round in
    told_on {whole = concat (drop c.args.from lines)} {xs = concat (slice_range lines round.from round.to)} c.from_residual.result _ (concat (drop round.to lines)) c.from_residual.ensures.0 before.text
    (lines-left lines round.from round.to before.round.0) c.in_err-make_beside.ensures.text

pub loop-self-preserved : goal.loop-self-preserved
loop-self-preserved g c =
    let lines = g.T.RowLines.lines c.args.rows.now in
    let before = c.loop-self.invariant in
    let round : Round = c.loop-self.self.ready.round in
    let ready : Desks = c.swap.new.x in
    let is_next : ready.round ≡ c.next_round.result = ap (λ (desks : Desks). desks.round) c.swap.ensures.x_after ∙ c.make_beside.ensures.round in
    let begins : round.to ≡ ready.round.from = sym (ap (λ (next : Round). next.from) is_next ∙ c.next_round.ensures.from) in
    record {
      some = c.next_at_once-self.ensures;
      round = subst (IsRound lines) (sym is_next)
          (c.next_round.ensures.ordered, omega (arith, c.next_round.ensures.within, c.count-count.ensures), omega (arith, c.next_round.ensures.at_once, before.some));
      ready = subst (AreDesks lines) (sym c.swap.ensures.x_after) c.in_ok-make_beside.ensures.desks;
      text = more_written {whole = concat (drop c.args.from lines)} {xs = concat (slice_range lines round.from round.to)} _ (concat (drop ready.round.from lines)) before.text
          (lines-left lines round.from round.to before.round.0 ∙ ap (λ n. concat (slice_range lines round.from round.to) ++ concat (drop n lines)) begins)
          c.in_ok-make_beside.ensures.text;
    }

pub returns : goal.returns
returns g c =
    let lines = g.T.RowLines.lines c.args.rows.now in
    let round : Round = c.loop-self.self.ready.round in
    let last : concat (drop round.from lines) ≡ concat (slice_range lines round.from round.to) =
    lines-left lines round.from round.to c.loop-self.invariant.round.0
    ∙ ap (λ rest. concat (slice_range lines round.from round.to) ++ rest) (no-lines-left lines round.to (omega (arith, c.loop-self-test.false, c.count-count.ensures)))
    ∙ append-nil (concat (slice_range lines round.from round.to)) in
    last_written {xs = concat (slice_range lines round.from round.to)} c.write.result
    (subst (HasWritten _ _ _ _ (concat (drop c.args.from lines))) last c.loop-self.invariant.text)
    c.write.ensures
