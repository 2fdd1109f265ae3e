use Rattle.std.proofs.Common.{◌≡◌, ◌+◌, ◌++◌, ◌∷◌, [], ◌∙◌, List, ℕ, Vec, Global, length, ap, sym, arith, rules, append_assoc, append-nil, length-append}
use Rattle.db_pages.specs.Image.{with_lock_page}
use Rattle.db_pages.proofs.Joined.{none_left, one_more, text_of}
use Rattle.db_pages.proofs.LockPage.{short_as_is}
use Rattle.db_pages.proofs.locks.join_pages.Goals as goal

pub loop-piece-init : goal.loop-piece-init
loop-piece-init c =
    let first : List ℕ = c.args.first.items in
    let count : c.len-len.result ≡ length first = search rules in
    record {
      all = c.into_iter-piece-iterator.ensures.into_iter_gives.0;
      len = ap length (append-nil first) ∙ sym count;
      text = c.of-text.ensures ∙ sym (ap with_lock_page (append-nil first) ∙ short_as_is first c.requires.short);
    }

pub loop-piece-preserved : goal.loop-piece-preserved
loop-piece-preserved c =
    let first : List ℕ = c.args.first.items in
    let so_far : List (Vec ℕ Global) = c.loop-piece.yielded in
    let piece : Vec ℕ Global = c.in-Some.piece in
    let size : c.len.result ≡ length piece.items = search rules in
    let next : c.in_ok-next.next ≡ c.loop-piece.len + c.len.result = grind arith in
    record {
      all = append_assoc so_far (piece ∷ []) c.next.new.self.rest.items ∙ ap (λ ps. so_far ++ ps) (sym c.in-Some.ensures.steps.0) ∙ c.loop-piece.invariant.all;
      len = ap length (sym (one_more first so_far piece)) ∙ omega (arith, length-append (first ++ text_of so_far) piece.items, c.loop-piece.invariant.len, size, next);
      text = c.in_ok-push_piece.ensures.ok (first ++ text_of so_far) c.loop-piece.invariant.text c.loop-piece.invariant.len ∙ ap with_lock_page (one_more first so_far piece);
    }

pub returns : goal.returns
returns c =
    let left : 0 ≡ length c.loop-piece.piece-iterator.rest.items = search rules in
    c.loop-piece.invariant.text
    ∙ ap with_lock_page (none_left c.args.first.items c.loop-piece.yielded c.loop-piece.piece-iterator.rest.items c.args.pieces.items c.loop-piece.invariant.all left)
