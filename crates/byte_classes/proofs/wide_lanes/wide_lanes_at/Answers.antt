use Rattle.std.proofs.Common.{◌≡◌, ℕ, ◌+◌, ◌-◌, List, drop, take, length, ◌∙◌, ap, arith}
use Rattle.std.proofs.lemmas.List.{take-take}
use Rattle.std.proofs.lemmas.Simd.{length-chunk}
use lib.Lanes.{chunk}
use Rattle.byte_classes.proofs.wide_lanes.wide_lanes_at.Goals as goal

same : (bytes : List ℕ) (at : ℕ) → chunk 0 64 (take (at + 64 - at) (drop at bytes)) ≡ chunk at 64 bytes
same bytes at = (let all : at + 64 - at ≡ 64 = omega arith in ap (λ n. take 64 (take n (drop at bytes))) all) ∙ take-take 64 64 (drop at bytes) (omega arith)

pub returns-clause-value : goal.returns-clause-value
returns-clause-value c = same c.args.bytes.now c.args.at

pub returns-clause-count : goal.returns-clause-count
returns-clause-count c = ap length (same c.args.bytes.now c.args.at) ∙ length-chunk c.args.at 64 c.args.bytes.now c.requires.within
