use Rattle.std.proofs.Common.{◌≡◌, ◌++◌, List, ℕ, length, ◌∙◌, ap}
use Rattle.std.proofs.lemmas.Result.{on_ok_weaker}
use Rattle.db_pages.specs.Page.{joined}
use Rattle.db_pages.specs.Cut.{cut, packed, page_head}
use Rattle.db_pages.proofs.Appends.{two_behind}
use Rattle.db_pages.proofs.Cuts.{head_cut}
use Rattle.db_pages.proofs.cells.Cells.push_leaf.Goals as goal

pub returns : goal.returns
returns c =
    let old : List ℕ = c.args.into.now.items in
    let sizes : List ℕ = c.self.inside.sizes.items in
    let bytes : List ℕ = c.self.inside.bytes.text in
    let cells : List (List ℕ) = c.args.self.now in
    let head : c.head_of.result ≡ page_head 13 (length cells) (length (joined cells)) =
    c.head_of.ensures ∙ ap (λ xs. page_head 13 (length xs) (length c.as_slice.result.now)) c.deref.ensures.value
    ∙ ap (λ xs. page_head 13 (length sizes) (length xs)) c.as_slice.ensures ∙ head_cut 13 sizes bytes cells c.self.view_is c.self.invariant in
    let same : cut c.deref-2.result.now c.as_slice-2.result.now ≡ cells =
    ap (λ xs. cut xs c.as_slice-2.result.now) c.deref-2.ensures.value ∙ ap (λ xs. cut sizes xs) c.as_slice-2.ensures ∙ c.self.view_is in
    record {
      ok = on_ok_weaker c.push_packed.result
          (λ out. two_behind old (page_head 13 (length cells) (length (joined cells))) (packed 8 cells) c.append.new.into.items _
          (c.in_ok-append.ensures.ok ∙ ap (λ xs. old ++ xs) head) (out ∙ ap (λ xs. c.append.new.into.items ++ packed 8 xs) same)) c.push_packed.ensures.ok;
    }
