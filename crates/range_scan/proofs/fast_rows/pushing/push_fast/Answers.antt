use Rattle.std.proofs.Common.{◌≡◌, ◌-◌, List, ℕ, drop, take, length, ap, subst, ◌∙◌, inl, inr}
use Rattle.std.specs.Prelude.{Option, IfSome, IsUtf8}
use Rattle.std.proofs.lemmas.List.{take_rest}
use Rattle.row_fields.specs.Split.{row_from}
use Rattle.value_types.specs.Datum.{Datum}
use Rattle.range_scan.specs.FastRows.{IsFastRow}
use Rattle.range_scan.proofs.FastVerdict.{ascii_text, ends, high, known_text, row_pushed}
use Rattle.range_scan.proofs.PushedRows.{finished}
use Rattle.range_scan.proofs.fast_rows.pushing.push_fast.Goals as goal

pub returns-then-is_text-clause-ok : goal.returns-then-is_text-clause-ok
returns-then-is_text-clause-ok c =
    let context = c.args.context.now in
    let bytes = c.args.bytes.now in
    let at = c.args.at in
    let len = c.in-Some.len in
    let old = c.args.chunk.now in
    let under = c.push_cells.new.chunk in
    let cells : List Datum = under.unfinished in
    let row : IsFastRow context (take (length bytes - at) (drop at bytes)) cells len =
    subst (λ (o : Option ℕ). IfSome o (IsFastRow context (take (length bytes - at) (drop at bytes)) cells)) c.in-Some.is c.in_ok-len.ensures.ok in
    let is : IsFastRow context (drop at bytes) cells len = subst (λ (bs : List ℕ). IsFastRow context bs cells len) (take_rest bytes at) row in
    let count : length cells ≡ length context.schema.types =
    subst (λ (o : Option ℕ). IfSome o (λ end. length cells ≡ length old.types)) c.in-Some.is c.in_ok-len.ensures.count ∙ ap length c.requires.types in
    let text : IsUtf8 (row_from context.dialect bytes at) = elim (c.is_text.ensures context c.if-is_text.true c.requires.known.rows) [
      | inl none ↦ ascii_text context bytes at len c.requires.within.0 cells is count none
      | inr until ↦ known_text context bytes at len c.requires.within.0 cells is count c.args.known.text_to c.requires.known.text c.requires.within.1 until
    ] in (
      ends context bytes at len c.requires.within.0 cells is count,
      high context bytes at len c.requires.within.0 cells is count,
      row_pushed context bytes at len c.requires.within.0 cells is count c.if-len-gt0.true c.if-len-context.true text old c.finish_row.new.self
          (finished cells old under c.finish_row.new.self c.requires.whole c.in_ok-len.ensures.same c.in_ok-finish_row.ensures.ok),
    )
