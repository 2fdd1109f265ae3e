use Rattle.std.proofs.Common.{◌≡◌, ◌==◌, ◌%◌, ◌∙◌, ℕ, List, if◌then◌else◌, ap, sym}
use Rattle.std.proofs.lemmas.Result.{on_ok_weaker}
use Rattle.db_records.specs.Record.{record_of}
use Rattle.db_pages.specs.Grown.{Filled}
use Rattle.db_pages.specs.Laid.{Laid, ended, with_row, with_short}
use Rattle.db_pages.proofs.ShortRows.{short-row}
use Rattle.db_pages.proofs.leaves.Leaves.push_values.Goals as goal

pub returns : goal.returns
returns c =
    let before : Filled = c.args.self.now in
    let row : List ℕ = record_of c.args.types.now.text c.args.body.now.text in
    let row-is : with_short before.base before.laid c.args.rowid row ≡ with_row before.base before.laid c.args.rowid row =
    sym (short-row before.base before.laid c.args.rowid c.args.types.now.text c.args.body.now.text c.requires.short) in
    let laid : c.push_short_values.new.self ≡ record { base = before.base; laid = with_row before.base before.laid c.args.rowid row } =
    c.in_ok-push_short_values.ensures.ok ∙ ap (λ (l : Laid). record { base = before.base; laid = l }) row-is in
    record {
      ok = on_ok_weaker c.end_block.result
          (λ out. out ∙ ap (λ (f : Filled). record { base = f.base; laid = if c.args.rowid % 8192 == 0 then ended f.base f.laid else f.laid }) laid)
          c.end_block.ensures.ok;
    }
