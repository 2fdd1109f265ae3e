use Rattle.std.proofs.Common.{◌≡◌, ◌-◌, ◌^◌, ◌∙◌, length, take, drop, ap, arith, rules}
use Rattle.db_pages.proofs.LockPage.{piece_after, piece_before, piece_round}
use Rattle.db_pages.proofs.locks.push_piece.Goals.{then-len-gt-LOCK_BYTE-via-then-len-gt-LOCK_BYTE, then-len-gt-LOCK_BYTE-via-else-len-gt-LOCK_BYTE+then-len}
use Rattle.db_pages.proofs.locks.push_piece.Goals as goal

pub returns-then-len-gt-LOCK_BYTE : goal.returns-then-len-gt-LOCK_BYTE
returns-then-len-gt-LOCK_BYTE c = record {
  ok = λ so_far is size.
      elim c.then-len-gt-LOCK_BYTE.branch [
        | then-len-gt-LOCK_BYTE-via-then-len-gt-LOCK_BYTE w ↦
            piece_after so_far c.args.piece.items c.args.text.now c.push.new.self c.args.len (omega (arith, w.if-len-gt-LOCK_BYTE.true)) is size c.in_ok-push.ensures
        | then-len-gt-LOCK_BYTE-via-else-len-gt-LOCK_BYTE+then-len w ↦
            let piece : w.len.result ≡ length c.args.piece.items = search rules in
            piece_before so_far c.args.piece.items c.args.text.now c.push.new.self c.args.len (omega (arith, piece, w.if-len.true, w.if-len-gt-LOCK_BYTE.false)) is size c.in_ok-push.ensures
      ];
}

pub returns : goal.returns
returns c = record {
  ok = λ so_far is size.
      let piece : c.len.result ≡ length c.args.piece.items = search rules in
      let front : c.in_ok-to_vec.field-0.items ≡ c.split_at.result.0.now = search rules in
      let back : c.in_ok-to_vec-2.field-0.items ≡ c.split_at.result.1.now = search rules in
      piece_round so_far c.args.piece.items c.in_ok-to_vec.field-0.items c.in_ok-to_vec-2.field-0.items c.in_ok-lock_page.field-0.items
      c.args.text.now c.push-2.new.self c.push-3.new.self c.push-4.new.self c.args.len (omega (arith, c.if-len-gt-LOCK_BYTE.false))
      (omega (arith, piece, c.if-len.false, c.if-len-gt-LOCK_BYTE.false)) is size
      (front ∙ c.split_at.ensures.front ∙ ap (λ xs. take (2 ^ 30 - c.args.len) xs) c.deref.ensures.value)
      (back ∙ c.split_at.ensures.back ∙ ap (λ xs. drop (2 ^ 30 - c.args.len) xs) c.deref.ensures.value)
      c.in_ok-lock_page.ensures c.in_ok-push-2.ensures c.in_ok-push-3.ensures c.in_ok-push-4.ensures;
}
