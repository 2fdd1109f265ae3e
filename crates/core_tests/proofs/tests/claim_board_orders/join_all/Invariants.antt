use Rattle.std.proofs.Common.{◌≡◌, All, vec_len}
use Rattle.claim_board.specs.declared.drawer.Drawer.{Drawer}
use Rattle.core_tests.proofs.tests.claim_board_orders.join_all.Given as goal

abbrev pub invariant-loop-drawer : goal.invariant-loop-drawer
invariant-loop-drawer l = record {
  first : l.first.board ≡ l.board;
  others : All (λ (d : Drawer). d.board ≡ l.board) l.others.items;
}

abbrev pub decreases-loop-drawer : goal.decreases-loop-drawer
decreases-loop-drawer l = vec_len l.others
