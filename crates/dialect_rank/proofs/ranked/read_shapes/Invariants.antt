use Rattle.std.proofs.Common.{◌≡◌, ◌+◌, ◌≤◌, ◌++◌, length, map}
use Rattle.std.specs.Prelude.{sum_by}
use Rattle.dialect_rank.specs.Sampled.{span_bytes, sampled_rows, sampled_spans}
use Rattle.dialect_rank.specs.Score.{closed_fields}
use Rattle.dialect_rank.specs.Shape.{shape_of}
use Rattle.dialect_rank.specs.Walk.{rest}
use Rattle.dialect_rank.proofs.ranked.read_shapes.Given as goal

abbrev pub invariant-loop-spans : goal.invariant-loop-spans
invariant-loop-spans l =
    let all = sampled_rows l.dialect l.sample l.whole l.sample_size in
    let later = map (span_bytes l.sample) (rest l.dialect l.sample l.whole l.walk) in record {
      shapes : map (shape_of l.dialect) all ≡ l.rows.items ++ map (shape_of l.dialect) later;
      closed : sum_by (closed_fields l.dialect) all ≡ l.closed + sum_by (closed_fields l.dialect) later;
      few : l.closed ≤ l.walk.at;
      spans : sampled_spans l.dialect l.sample l.whole l.sample_size ≡ l.spans ++ rest l.dialect l.sample l.whole l.walk;
    }

abbrev pub decreases-loop-spans : goal.decreases-loop-spans
decreases-loop-spans l = length (rest l.dialect l.sample l.whole l.walk)
