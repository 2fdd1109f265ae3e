use Rattle.std.proofs.Common.{◌≡◌, ◌∙◌, List, ℕ, length, sym, arith}
use Rattle.db_pages.specs.Laid.{long_cell}
use Rattle.db_pages.proofs.Chains.{long_cell_size}
use Rattle.db_pages.proofs.Cuts.{cells_more, fits_with}
use Rattle.db_pages.proofs.cells.Cells.push_long.Goals as goal

pub invariant_of-self-in-Ok : goal.invariant_of-self-in-Ok
invariant_of-self-in-Ok c =
    let cell : List ℕ = long_cell c.args.place c.args.rowid c.args.row.now in
    let size : c.long_cell_len.result ≡ length cell = c.long_cell_len.ensures.value ∙ sym (long_cell_size c.args.place c.args.rowid c.args.row.now) in
    fits_with c.self.inside.sizes.items c.self.inside.bytes.text _ _ c.args.self.now cell _ c.self.view_is c.self.invariant
    size c.in_ok-push.ensures.items c.in-Ok.ensures.ok (omega (arith, long_cell_size c.args.place c.args.rowid c.args.row.now, c.requires.room))

pub returns-in-Ok : goal.returns-in-Ok
returns-in-Ok c =
    let cell : List ℕ = long_cell c.args.place c.args.rowid c.args.row.now in
    let size : c.long_cell_len.result ≡ length cell = c.long_cell_len.ensures.value ∙ sym (long_cell_size c.args.place c.args.rowid c.args.row.now) in
    record {
      ok = cells_more c.self.inside.sizes.items c.self.inside.bytes.text _ _ c.args.self.now cell _ c.self.view_is c.self.invariant
          size c.in_ok-push.ensures.items c.in-Ok.ensures.ok;
    }
