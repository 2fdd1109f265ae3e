use Rattle.std.proofs.Common.{◌+◌, ◌*◌, ◌≤◌, List, ℕ, length, arith}
use Rattle.db_records.specs.Cell.{cell_bytes}
use Rattle.db_pages.specs.Page.{joined}
use Rattle.db_records.specs.Record.{record_of}
use Rattle.db_pages.proofs.Cuts.{cells_more, fits_with}
use Rattle.db_pages.proofs.cells.Cells.push_values.Goals as goal

pub invariant_of-self-in-Ok : goal.invariant_of-self-in-Ok
invariant_of-self-in-Ok c =
    let cell : List ℕ = cell_bytes c.args.rowid (record_of c.args.types.now.text c.args.body.now.text) in
    let room : 8 + 2 * (length c.args.self.now + 1) + length (joined c.args.self.now) + length cell ≤ 4096 = omega (arith, c.requires.size, c.requires.room) in
    fits_with c.self.inside.sizes.items c.self.inside.bytes.text _ _ c.args.self.now cell _ c.self.view_is c.self.invariant
    c.requires.size c.in_ok-push.ensures.items c.in-Ok.ensures.ok room

pub returns-in-Ok : goal.returns-in-Ok
returns-in-Ok c =
    let cell : List ℕ = cell_bytes c.args.rowid (record_of c.args.types.now.text c.args.body.now.text) in
    record {
      ok = cells_more c.self.inside.sizes.items c.self.inside.bytes.text _ _ c.args.self.now cell _ c.self.view_is c.self.invariant
          c.requires.size c.in_ok-push.ensures.items c.in-Ok.ensures.ok;
    }
