use Rattle.std.proofs.Common.{◌≡◌, List, ℕ, length}
use Rattle.db_records.specs.Cell.{cell_bytes}
use Rattle.db_pages.proofs.Cuts.{cells_more, fits_with}
use Rattle.db_pages.proofs.cells.Cells.push_row.Goals as goal

pub invariant_of-self-in-Ok : goal.invariant_of-self-in-Ok
invariant_of-self-in-Ok c =
    let cell : List ℕ = cell_bytes c.args.rowid c.args.row.now in
    let size : c.cell_len.result ≡ length cell = c.cell_len.ensures.value in
    fits_with c.self.inside.sizes.items c.self.inside.bytes.text _ _ c.args.self.now cell _ c.self.view_is c.self.invariant
    size c.in_ok-push.ensures.items c.in-Ok.ensures.ok c.requires.room

pub returns-in-Ok : goal.returns-in-Ok
returns-in-Ok c =
    let cell : List ℕ = cell_bytes c.args.rowid c.args.row.now in
    let size : c.cell_len.result ≡ length cell = c.cell_len.ensures.value in
    record {
      ok = cells_more c.self.inside.sizes.items c.self.inside.bytes.text _ _ c.args.self.now cell _ c.self.view_is c.self.invariant
          size c.in_ok-push.ensures.items c.in-Ok.ensures.ok;
    }
