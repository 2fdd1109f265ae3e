use Rattle.std.proofs.Common.{◌≡◌, ◌+◌, ◌++◌, [], ◌∙◌, ◌∷◌, List, ℕ, length, ap, arith, length-append}
use Rattle.db_records.specs.Varint.{varint}
use Rattle.db_pages.specs.Numbers.{four_bytes, number_of}
use Rattle.db_pages.specs.Page.{joined}
use Rattle.db_pages.specs.Cut.{cut}
use Rattle.db_pages.proofs.Cuts.{cells_more, fits_with, joined_more}
use Rattle.db_pages.proofs.cells.Cells.push_divider.Goals as goal

pub invariant_of-self-in-Ok : goal.invariant_of-self-in-Ok
invariant_of-self-in-Ok c =
    let cell : List ℕ = four_bytes (number_of c.args.child.place) ++ varint c.args.child.last in
    let size : 4 + c.varint_len.result ≡ length cell = omega (arith, c.varint_len.ensures.value, length-append (four_bytes (number_of c.args.child.place)) (varint c.args.child.last)) in
    fits_with c.self.inside.sizes.items c.self.inside.bytes.text _ _ c.args.self.now cell _ c.self.view_is c.self.invariant
    size c.in_ok-push.ensures.items c.in-Ok.ensures.ok (omega (arith, size, c.varint_len.ensures.within, c.requires.room))

pub returns-in-Ok : goal.returns-in-Ok
returns-in-Ok c =
    let cell : List ℕ = four_bytes (number_of c.args.child.place) ++ varint c.args.child.last in
    let cells : List (List ℕ) = c.args.self.now in
    let size : 4 + c.varint_len.result ≡ length cell = omega (arith, c.varint_len.ensures.value, length-append (four_bytes (number_of c.args.child.place)) (varint c.args.child.last)) in
    let is : cut c.push.new.self.items c.push_divider_cell.new.into.text ≡ cells ++ cell ∷ [] =
    cells_more c.self.inside.sizes.items c.self.inside.bytes.text _ _ cells cell _ c.self.view_is c.self.invariant
    size c.in_ok-push.ensures.items c.in-Ok.ensures.ok in
    record {
      ok = is;
      count = ap length is ∙ length-append cells (cell ∷ []);
      size = omega (arith, ap length (ap joined is ∙ joined_more cells cell), length-append (joined cells) cell, size, c.varint_len.ensures.within);
    }
