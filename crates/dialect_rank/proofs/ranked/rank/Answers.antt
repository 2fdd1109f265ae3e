use Rattle.std.proofs.Common.{ap, ◌∙◌}
use Rattle.dialect_rank.specs.Sampled.{sampled_rows}
use Rattle.dialect_rank.specs.Score.{most_frequent}
use Rattle.dialect_rank.specs.Shape.{field_counts, score_in}
use Rattle.dialect_rank.proofs.Shapes.{score-is}
use Rattle.dialect_rank.proofs.ranked.rank.Goals as goal

pub returns : goal.returns
returns c =
    let d = c.args.dialect.now in
    let shapes = c.in_ok-shapes.shapes in
    let mode = c.in_ok-mode.mode in
    let rows = sampled_rows d c.args.sample.now c.args.whole c.args.sample_size in
    let score = c.score_in-score.ensures ∙ ap (λ items. score_in items mode shapes.closed) c.deref-2.ensures.value
    ∙ score-is d rows shapes.rows.items mode shapes.closed c.in_ok-shapes.ensures.0 (c.in_ok-mode.ensures ∙ ap (λ items. most_frequent (field_counts items)) c.deref.ensures.value) c.in_ok-shapes.ensures.1 in
    λ i. record { dialect = d; score = score i; spans = c.in_ok-shapes.ensures.2 i }
