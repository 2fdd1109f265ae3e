use Rattle.std.proofs.Common.{◌≡◌, ◌++◌, List, ℕ, length, ◌∙◌, ap, arith}
use Rattle.std.proofs.lemmas.Result.{on_ok_weaker}
use Rattle.db_pages.specs.Page.{joined}
use Rattle.db_pages.specs.Cut.{cut, packed, page_head}
use Rattle.db_pages.specs.Numbers.{four_bytes, number_of}
use Rattle.db_pages.proofs.Appends.{three_behind}
use Rattle.db_pages.proofs.Cuts.{head_cut, measured}
use Rattle.db_pages.proofs.cells.Cells.push_inner.Goals as goal

pub push_packed-requires-clause-room : goal.push_packed-requires-clause-room
push_packed-requires-clause-room c =
    let m = measured c.self.inside.sizes.items c.self.inside.bytes.text c.args.self.now c.self.view_is c.self.invariant in
    omega (arith, c.requires.room, m.0, m.1, ap length c.deref-2.ensures.value, ap length c.as_slice-2.ensures)

pub returns : goal.returns
returns c =
    let old : List ℕ = c.args.into.now.items in
    let sizes : List ℕ = c.self.inside.sizes.items in
    let bytes : List ℕ = c.self.inside.bytes.text in
    let cells : List (List ℕ) = c.args.self.now in
    let right : List ℕ = four_bytes (number_of c.args.right) in
    let head : c.head_of.result ≡ page_head 5 (length cells) (length (joined cells)) =
    c.head_of.ensures ∙ ap (λ xs. page_head 5 (length xs) (length c.as_slice.result.now)) c.deref.ensures.value
    ∙ ap (λ xs. page_head 5 (length sizes) (length xs)) c.as_slice.ensures ∙ head_cut 5 sizes bytes cells c.self.view_is c.self.invariant in
    let same : cut c.deref-2.result.now c.as_slice-2.result.now ≡ cells =
    ap (λ xs. cut xs c.as_slice-2.result.now) c.deref-2.ensures.value ∙ ap (λ xs. cut sizes xs) c.as_slice-2.ensures ∙ c.self.view_is in
    record {
      ok = on_ok_weaker c.push_packed.result
          (λ out. three_behind old (page_head 5 (length cells) (length (joined cells))) right (packed 12 cells) c.append.new.into.items c.append-2.new.into.items _
          (c.in_ok-append.ensures.ok ∙ ap (λ xs. old ++ xs) head)
          (c.in_ok-append-2.ensures.ok ∙ ap (λ xs. c.append.new.into.items ++ xs) c.in_ok-number_bytes.ensures)
          (out ∙ ap (λ xs. c.append-2.new.into.items ++ packed 12 xs) same)) c.push_packed.ensures.ok;
    }
