use Rattle.std.proofs.Common.{◌≡◌, ℕ, ◌-◌, Bool, not, List, length, take, drop, arith, length-take, length-drop, ap, ◌∙◌}
use Rattle.std.specs.List.{prefix_len}
use Rattle.std.proofs.lemmas.List.Sums.{prefix_len-le-length}
use Rattle.text_pieces.proofs.RunLengths.{run_in_lanes, run_in_last, run_past_lanes}
use Rattle.text_pieces.proofs.search.first_where.Goals as goal

pub returns-then-run-lt16-clause-value : goal.returns-then-run-lt16-clause-value
returns-then-run-lt16-clause-value g c =
    let fails : ℕ → Bool = λ b. not (g.P.Probe.passes b) in
    let bytes : List ℕ = c.args.bytes.now in
    let at : ℕ = c.loop-at.at in
    let run : c.run_behind-run.result ≡ prefix_len fails (take 16 (drop at bytes)) =
    c.run_behind-run.ensures.value g.P.Probe.passes c.lanes_at.result c.lanes_at.ensures.count c.lanes.ensures ∙ ap (prefix_len fails) c.lanes_at.ensures.value in
    omega (arith, run_in_lanes fails bytes at c.run_behind-run.result (omega (arith, c.loop-at-test.true)) run c.if-run-lt16.true, c.loop-at.invariant.reach)

pub loop-at-preserved : goal.loop-at-preserved
loop-at-preserved g c =
    let fails : ℕ → Bool = λ b. not (g.P.Probe.passes b) in
    let bytes : List ℕ = c.args.bytes.now in
    let at : ℕ = c.loop-at.at in
    let run : c.run_behind-run.result ≡ prefix_len fails (take 16 (drop at bytes)) =
    c.run_behind-run.ensures.value g.P.Probe.passes c.lanes_at.result c.lanes_at.ensures.count c.lanes.ensures ∙ ap (prefix_len fails) c.lanes_at.ensures.value in
    let most = prefix_len-le-length fails (take 16 (drop at bytes)) in
    let full : c.run_behind-run.result ≡ 16 = omega (arith, run, most, length-take 16 (drop at bytes), c.if-run-lt16.false) in
    record {
      high = omega (arith, c.loop-at-test.true);
      reach = omega (arith, c.loop-at.invariant.reach, run_past_lanes fails bytes at c.run_behind-run.result run full);
    }

pub returns-clause-value : goal.returns-clause-value
returns-clause-value g c =
    let fails : ℕ → Bool = λ b. not (g.P.Probe.passes b) in
    let bytes : List ℕ = c.args.bytes.now in
    let at : ℕ = c.loop-at.at in
    let last : ℕ = length bytes - 16 in
    let run : c.run_behind.result ≡ prefix_len fails (drop (at - last) (take 16 (drop last bytes))) =
    c.run_behind.ensures.value g.P.Probe.passes c.lanes_at-2.result c.lanes_at-2.ensures.count c.lanes-2.ensures ∙ ap (λ xs. prefix_len fails (drop (at - last) xs)) c.lanes_at-2.ensures.value in
    omega (arith, run, run_in_last fails bytes at last (omega arith) (omega arith), c.loop-at.invariant.reach)

pub returns-clause-within : goal.returns-clause-within
returns-clause-within g c =
    let fails : ℕ → Bool = λ b. not (g.P.Probe.passes b) in
    let bytes : List ℕ = c.args.bytes.now in
    let at : ℕ = c.loop-at.at in
    let last : ℕ = length bytes - 16 in
    let run : c.run_behind.result ≡ prefix_len fails (drop (at - last) (take 16 (drop last bytes))) =
    c.run_behind.ensures.value g.P.Probe.passes c.lanes_at-2.result c.lanes_at-2.ensures.count c.lanes-2.ensures ∙ ap (λ xs. prefix_len fails (drop (at - last) xs)) c.lanes_at-2.ensures.value in
    omega (arith, run, run_in_last fails bytes at last (omega arith) (omega arith), prefix_len-le-length fails (drop at bytes), length-drop at bytes)
