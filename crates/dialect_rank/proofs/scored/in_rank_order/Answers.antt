use Rattle.std.proofs.Common.{◌≡◌, ℕ, List, ◌++◌, length, ap, sym, ◌∙◌, arith}
use Rattle.std.specs.Prelude.{flat_map, filter, ◌==◌}
use Rattle.std.specs.List.{range_with_len}
use Rattle.dialect_rank.specs.declared.scored.Scored.{Scored}
use Rattle.dialect_rank.specs.Scored.{standing}
use Rattle.dialect_rank.proofs.Ranges.{flat_map-range_more}
use Rattle.dialect_rank.proofs.scored.in_rank_order.Goals as goal

abbrev those : List Scored → ℕ → List Scored
those scored better = filter (λ (c : Scored). standing scored c == better) scored

pub loop-better-preserved : goal.loop-better-preserved
loop-better-preserved c =
    let scored : List Scored = c.args.scored.now in
    let k = c.loop-better.better in
    c.in_ok-push_standing.ensures ∙ ap (λ xs. xs ++ those scored k) c.loop-better.invariant ∙ sym (flat_map-range_more (those scored) k)

pub returns : goal.returns
returns c =
    let scored : List Scored = c.args.scored.now in
    c.loop-better.invariant ∙ ap (λ n. flat_map (those scored) (range_with_len 0 n)) (let all : c.loop-better.better ≡ length scored = omega arith in all)
