use Rattle.std.proofs.Common.{◌≡◌, ℕ, ◌+◌, ◌≤◌, ◌++◌, ◌∷◌, [], List, length, map, sym, ap, subst, ◌∙◌, append_assoc, arith}
use Rattle.std.specs.Prelude.{MatchOption, sum_by}
use Rattle.dialect_rank.specs.declared.shape.RowShape.{RowShape}
use Rattle.dialect_rank.specs.Sampled.{Span, span_bytes, sampled_rows}
use Rattle.dialect_rank.specs.Score.{closed_fields}
use Rattle.dialect_rank.specs.Shape.{shape_of}
use Rattle.dialect_rank.specs.Walk.{rest, span_of, TakesRow}
use Rattle.dialect_rank.proofs.Shapes.{shapes-more, closed-more, few-more}
use Rattle.dialect_rank.proofs.WalkSteps.{rest-all}
use Rattle.dialect_rank.proofs.ranked.read_shapes.Goals as goal

pub loop-spans-init : goal.loop-spans-init
loop-spans-init c =
    let d = c.args.dialect.now in
    let sample : List ℕ = c.args.sample.now in
    let whole = c.args.whole in
    let all : List (List ℕ) = sampled_rows d sample whole c.args.sample_size in
    let later : List (List ℕ) = map (span_bytes sample) (rest d sample whole c.new-walk.result) in
    let same : all ≡ later = ap (map (span_bytes sample)) (sym (rest-all d sample whole c.args.sample_size) ∙ ap (rest d sample whole) (sym c.new-walk.ensures)) in record {
      shapes = ap (map (shape_of d)) same ∙ ap (λ (shapes : List RowShape). shapes ++ map (shape_of d) later) (sym c.new-rows.ensures.items);
      closed = ap (sum_by (closed_fields d)) same ∙ (let none : sum_by (closed_fields d) later ≡ 0 + sum_by (closed_fields d) later = omega arith in none);
      few = omega arith;
      spans = sym (rest-all d sample whole c.args.sample_size) ∙ ap (rest d sample whole) (sym c.new-walk.ensures)
          ∙ ap (λ (spans : List Span). spans ++ rest d sample whole c.new-walk.result) (sym c.new-spans.ensures);
    }

pub overflow_add-closed : goal.overflow_add-closed
overflow_add-closed c =
    let d = c.args.dialect.now in
    let sample : List ℕ = c.args.sample.now in
    let whole = c.args.whole in
    let old = c.loop-spans.walk in
    let new = c.next.new.self in
    let row = c.in-Some.row in
    let takes : TakesRow d sample whole old new row =
    subst (λ o. MatchOption o (rest d sample whole old ≡ []) (TakesRow d sample whole old new)) c.in-Some.is c.in_ok-row.ensures in
    let few : c.loop-spans.closed + row.closed ≤ new.at = few-more d sample whole old new row takes c.loop-spans.closed c.loop-spans.invariant.few in
    let fits : c.loop-spans.closed + row.closed ≤ length sample + 2 = omega (arith, few, takes.most) in
    grind (arith, fits)

pub loop-spans-preserved : goal.loop-spans-preserved
loop-spans-preserved c =
    let d = c.args.dialect.now in
    let sample : List ℕ = c.args.sample.now in
    let whole = c.args.whole in
    let old = c.loop-spans.walk in
    let new = c.next.new.self in
    let row = c.in-Some.row in
    let takes : TakesRow d sample whole old new row =
    subst (λ o. MatchOption o (rest d sample whole old ≡ []) (TakesRow d sample whole old new)) c.in-Some.is c.in_ok-row.ensures in
    let later : List (List ℕ) = map (span_bytes sample) (rest d sample whole new) in
    record {
      shapes = shapes-more d sample whole old new row takes _ c.loop-spans.rows.items c.loop-spans.invariant.shapes
          ∙ ap (λ (shapes : List RowShape). shapes ++ map (shape_of d) later) (sym c.in_ok-push.ensures.items);
      closed = closed-more d sample whole old new row takes _ c.loop-spans.closed c.loop-spans.invariant.closed;
      few = few-more d sample whole old new row takes c.loop-spans.closed c.loop-spans.invariant.few;
      spans = c.loop-spans.invariant.spans ∙ (λ i. c.loop-spans.spans ++ takes.next i) ∙ sym (append_assoc c.loop-spans.spans (span_of row ∷ []) (rest d sample whole new))
          ∙ ap (λ (spans : List Span). spans ++ rest d sample whole new) (sym c.in_ok-push-2.ensures.ok);
    }
