use Rattle.std.proofs.Common.{◌≡◌, sym, ap, ◌∙◌, subst, min}
use Rattle.claim_board.specs.Rule.{times, once_below}
use Rattle.claim_board.specs.Seen.{DrawerSeen}
use Rattle.claim_board.proofs.Keeps.{alone, got}
use Rattle.claim_board.proofs.board.Board.close.Goals as goal

pub returns-clause-alone : goal.returns-clause-alone
returns-clause-alone c whole x =
    let unsplit = ap (λ (d : DrawerSeen). d.splits) c.drawer.view_is ∙ whole in
    let is = alone _ _ _ _ _ (c.close_with-closed.ensures.values.2) unsplit x in
    let word = got _ _ c.word-word.ensures in
    let told = is ∙ ap (λ n. once_below x (min n c.self.inside.table.shared.key)) word ∙ ap (λ k. once_below x (min c.word-word.result k)) c.self.invariant.2 ∙ ap (once_below x) (sym c.min.ensures) in
    subst (λ (d : DrawerSeen). times x d.drawn ≡ once_below x c.min.result) c.drawer.view_is told
