use Rattle.db_pages.proofs.Cuts.{measured}
use Rattle.db_pages.proofs.cells.Cells.fit.Goals as goal

pub returns : goal.returns
returns c = (measured c.self.inside.sizes.items c.self.inside.bytes.text c.args.self.now c.self.view_is c.self.invariant).2
