use Rattle.std.proofs.Common.{List, ℕ, ap}
use Rattle.load_options.specs.ColumnTypes.{pair_name, pair_type}
use Rattle.load_options.proofs.ListSteps.{map_go_on}
use Rattle.load_options.proofs.column_types.cut_pairs.Goals as goal

pub loop-at-preserved : goal.loop-at-preserved
loop-at-preserved c =
    let pairs = c.args.pairs.now in
    let at = c.loop-at.at in
    let name = ap (λ (both : List ℕ × List ℕ). both.0) c.cut_pair.ensures in
    let ty = ap (λ (both : List ℕ × List ℕ). both.1) c.cut_pair.ensures in
    record {
      names = map_go_on pair_name c.loop-at.names _ pairs at c.get.result.now _ c.get.ensures name c.in_ok-push.ensures.ok c.loop-at.invariant.names;
      types = map_go_on pair_type c.loop-at.types _ pairs at c.get.result.now _ c.get.ensures ty c.in_ok-push-2.ensures.ok c.loop-at.invariant.types;
    }
