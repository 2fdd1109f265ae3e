use Rattle.std.proofs.Common.{◌≡◌, ◌+◌, drop, sym, ◌∙◌, ap, arith}
use Rattle.quote_automaton.specs.Automaton.{state_after}
use Rattle.quote_automaton.proofs.Running.{state_step, state_along}
use Rattle.quote_automaton.proofs.state.walk.Goals as goal

pub loop-at-preserved : goal.loop-at-preserved
loop-at-preserved c =
    let d = c.args.dialect.now in
    let bytes = c.args.bytes.now in
    let behind : state_after d c.step-state.result (drop (c.loop-at.at + 1) bytes) ≡ state_after d c.args.state (drop c.args.from bytes) =
    ap (λ s. state_after d s (drop (c.loop-at.at + 1) bytes)) c.step-state.ensures ∙ sym (state_step d c.loop-at.state bytes c.loop-at.at (omega (arith, c.loop-at-test.true, c.requires.high))) ∙ c.loop-at.invariant.after in
    record {
      high = c.run_end-at.ensures.high;
      after = state_along d c.step-state.result _ bytes (c.loop-at.at + 1) c.run_end-at.result c.run_end-at.ensures.low c.run_end-at.ensures.high c.run_end-at.ensures.quiet behind;
    }
