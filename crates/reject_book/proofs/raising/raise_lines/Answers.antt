use Rattle.std.proofs.Common.{◌≡◌, ◌+◌, ◌++◌, map, take, drop, subst, arith}
use Rattle.std.proofs.Math.ListN.{set}
use Rattle.std.proofs.lemmas.List.Edits.{map_over_more}
use Rattle.reject_book.specs.Kept.{raised}
use Rattle.reject_book.proofs.raising.raise_lines.Goals as goal

pub loop-reject-preserved : goal.loop-reject-preserved
loop-reject-preserved c =
    let raise = raised c.args.lines in
    let olds = c.args.rejects.now in
    let at = c.loop-reject.reject-index in
    subst (λ reject. set c.loop-reject.rejects at (raise reject) ≡ map raise (take (at + 1) olds) ++ drop (at + 1) olds) c.reject-item.is
    (map_over_more raise olds c.loop-reject.rejects at c.reject-item.result (omega arith) c.loop-reject.invariant c.reject-item.is)
