use Rattle.std.proofs.Common.{◌+◌, sym, ◌∙◌, ap}
use Rattle.db_pages.specs.Laid.{next_place}
use Rattle.db_pages.specs.Grown.{Filled, closed}
use Rattle.db_pages.proofs.Closed.{ends-behind}
use Rattle.db_pages.proofs.leaves.Leaves.next_place.Goals as goal

pub returns : goal.returns
returns c =
    let s = c.self.inside in
    ap (λ n. n + 1) (c.in_ok-place.ensures ∙ ap (next_place s.base) c.deref.ensures.value)
    ∙ ends-behind s.base s.pages.items s.leaves.items s.last s.cells (sym c.is_empty.ensures ∙ c.if-is_empty.false) c.fit.ensures
    ∙ ap (λ (f : Filled). next_place f.base (closed f).pages) c.self.view_is
