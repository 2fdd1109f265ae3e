use Rattle.std.proofs.Common.{◌≡◌, ◌∙◌, ℕ, List, [], ◌∷◌, Some, map, slice_get, sym, ap, subst}
use Rattle.std.specs.Prelude.{MatchOption, option_map}
use Rattle.dialect_rank.specs.declared.shape.RowShape.{RowShape}
use Rattle.dialect_rank.specs.Sampled.{sampled_rows, span_bytes}
use Rattle.dialect_rank.specs.Score.{field_count}
use Rattle.dialect_rank.specs.Walk.{rest, span_of, TakesRow}
use Rattle.dialect_rank.proofs.WalkSteps.{rest-all}
use Rattle.dialect_rank.proofs.outranking.first_count.Goals as goal

pub returns-in-Some : goal.returns-in-Some
returns-in-Some c =
    let d = c.args.dialect.now in
    let sample : List ℕ = c.args.sample.now in
    let whole = c.args.whole in
    let old = c.new-walk.result in
    let new = c.next.new.self in
    let found = c.in-Some.row in
    let takes : TakesRow d sample whole old new found =
    subst (λ o. MatchOption o (rest d sample whole old ≡ []) (TakesRow d sample whole old new)) c.in-Some.is c.in_ok-row.ensures in
    let row : List ℕ = span_bytes sample (span_of found) in
    let all : sampled_rows d sample whole c.args.sample_size ≡ row ∷ map (span_bytes sample) (rest d sample whole new) =
    ap (map (span_bytes sample)) (sym (rest-all d sample whole c.args.sample_size) ∙ ap (rest d sample whole) (sym c.new-walk.ensures) ∙ takes.next) in
    ap (λ (shape : RowShape). Some shape.fields) takes.counts.shape ∙ sym (ap (λ rows. option_map (field_count d) (slice_get rows 0)) all)

pub returns : goal.returns
returns c =
    let d = c.args.dialect.now in
    let sample : List ℕ = c.args.sample.now in
    let whole = c.args.whole in
    let old = c.new-walk.result in
    let new = c.next.new.self in
    let none : rest d sample whole old ≡ [] =
    subst (λ o. MatchOption o (rest d sample whole old ≡ []) (TakesRow d sample whole old new)) c.in-None.is c.in_ok-row.ensures in
    let all : sampled_rows d sample whole c.args.sample_size ≡ [] =
    ap (map (span_bytes sample)) (sym (rest-all d sample whole c.args.sample_size) ∙ ap (rest d sample whole) (sym c.new-walk.ensures) ∙ none) in
    sym (ap (λ rows. option_map (field_count d) (slice_get rows 0)) all)
