use Rattle.std.proofs.Common.{◌≡◌, ◌++◌, length}
use Rattle.db_pages.proofs.Joined.{text_of}
use Rattle.db_pages.specs.Image.{with_lock_page}
use Rattle.db_pages.proofs.locks.join_pages.Given as goal

-- the pieces so far are written
abbrev pub invariant-loop-piece : goal.invariant-loop-piece
invariant-loop-piece l = record {
  all : l.yielded ++ l.piece-iterator.rest.items ≡ l.fn.pieces.items;
  len : length (l.fn.first.items ++ text_of l.yielded) ≡ l.len;
  text : l.text ≡ with_lock_page (l.fn.first.items ++ text_of l.yielded);
}
