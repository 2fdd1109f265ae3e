use Rattle.std.proofs.Common.{◌≡◌, ◌+◌, ◌*◌, ◌∙◌, length, nat_le, ap, rules}
use Rattle.db_pages.proofs.Cuts.{measured}
use Rattle.db_pages.proofs.cells.Cells.has_room.Goals as goal

pub returns : goal.returns
returns c =
    let cells = c.args.self.now in
    let m = measured c.self.inside.sizes.items c.self.inside.bytes.text cells c.self.view_is c.self.invariant in
    let count : c.len.result ≡ length c.self.inside.sizes.items = search rules in
    let size : c.len-2.result ≡ length c.self.inside.bytes.text = search rules in
    ap (λ n. nat_le (8 + 2 * (n + 1) + c.len-2.result + c.args.size) 4096) (count ∙ m.0)
    ∙ ap (λ n. nat_le (8 + 2 * (length cells + 1) + n + c.args.size) 4096) (size ∙ m.1)
