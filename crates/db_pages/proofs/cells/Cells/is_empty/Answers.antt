use Rattle.std.proofs.Common.{◌≡◌, ◌==◌, ◌∙◌, length, rules}
use Rattle.db_pages.proofs.Cuts.{empty_cut}
use Rattle.db_pages.proofs.cells.Cells.is_empty.Goals as goal

pub returns : goal.returns
returns c =
    let test : c.is_empty.result ≡ (length c.self.inside.sizes.items == 0) = search rules in
    test ∙ empty_cut c.self.inside.sizes.items c.self.inside.bytes.text c.args.self.now c.self.view_is
