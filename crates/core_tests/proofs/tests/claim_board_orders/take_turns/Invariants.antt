use Rattle.std.proofs.Common.{◌≡◌, All}
use Rattle.claim_board.specs.declared.drawer.Drawer.{Drawer}
use Rattle.core_tests.proofs.tests.claim_board_orders.take_turns.Given as goal

abbrev pub invariant-loop-turn : goal.invariant-loop-turn
invariant-loop-turn l = record {
  first : l.first.board ≡ l.board;
  others : All (λ (d : Drawer). d.board ≡ l.board) l.others;
}
