use Rattle.std.proofs.Common.{◌≡◌, ◌≢◌, ◌-◌, ◌/◌, ◌^◌, ℕ, List, length, drop, map, ap, sym, ◌∙◌, arith, length-drop}
use Rattle.std.proofs.lemmas.Simd.{leading_from_mask_l, trailing_mask_l}
use lib.Count.{count_trailing_zeros}
use lib.Lanes.{mask_l}
use Rattle.text_pieces.proofs.Lanes.{mask-drop}
use Rattle.text_pieces.proofs.runs.run_behind.Goals as goal

pub returns-then-behind-eq0-clause-value : goal.returns-then-behind-eq0-clause-value
returns-then-behind-eq0-clause-value c test lanes long is =
    let passed : ℕ = c.args.passed in
    let rest : List ℕ = drop passed lanes in
    let mask : mask_l (map test rest) ≡ c.args.found / 2 ^ passed = mask-drop test passed lanes (omega (arith, c.requires, long)) ∙ ap (λ m. m / 2 ^ passed) (sym is) in
    let count : 16 - passed ≡ length rest = ap (λ n. n - passed) (sym long) ∙ sym (length-drop passed lanes) in
    count ∙ sym (leading_from_mask_l test rest (mask ∙ c.if-behind-eq0.true))

pub returns-else-behind-eq0-clause-value : goal.returns-else-behind-eq0-clause-value
returns-else-behind-eq0-clause-value c test lanes long is =
    let passed : ℕ = c.args.passed in
    let rest : List ℕ = drop passed lanes in
    let mask : mask_l (map test rest) ≡ c.args.found / 2 ^ passed = mask-drop test passed lanes (omega (arith, c.requires, long)) ∙ ap (λ m. m / 2 ^ passed) (sym is) in
    let apart : mask_l (map test rest) ≢ 0 = λ e. c.if-behind-eq0.false (sym mask ∙ e) in
    ap (count_trailing_zeros 64) (sym mask) ∙ trailing_mask_l test 64 rest (omega (arith, length-drop passed lanes, long)) (omega (arith, apart))
