use Rattle.std.proofs.Common.{◌≡◌, ◌||◌, ◌==◌, Bool, ◌*◌, length, sym, ◌∙◌, ap, rules}
use Rattle.db_pages.specs.Grown.{closed, holds_at}
use Rattle.db_pages.proofs.Closed.{holds-cells}
use Rattle.db_pages.proofs.leaves.Leaves.holds_at.Goals as goal

pub returns : goal.returns
returns c =
    let s = c.self.inside in
    let pages : c.len.result ≡ length s.pages.items = search rules in
    let leaves : c.len-2.result ≡ length s.leaves.items = search rules in
    let test : c.are_leaves.result ≡ (length s.pages.items == 4096 * length s.leaves.items) =
    c.are_leaves.ensures ∙ ap (λ n. n == 4096 * c.len-2.result) pages ∙ ap (λ n. length s.pages.items == 4096 * n) leaves in
    ap (λ (b : Bool). (s.base == c.args.place) || b) test
    ∙ sym (holds-cells c.args.place s.base s.pages.items s.leaves.items s.cells s.last c.fit.ensures)
    ∙ ap (λ f. holds_at c.args.place (closed f)) c.self.view_is
