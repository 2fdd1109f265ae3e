use Rattle.std.proofs.Common.{◌≡◌, [], ◌∷◌, ap, subst, pos, ◌∙◌, All}
use Rattle.std.specs.Option.{option_to_list}
use Rattle.std.proofs.lemmas.Result.{on_ok_weaker}
use Rattle.sqlite_value.specs.declared.value.Value.TheVariants.{Int, Text}
use Rattle.sqlite_value.specs.Order.{Row}
use Rattle.db_records.specs.Record.{IsWritable}
use Rattle.db_writer.specs.Rejects.{scan_row}
use Rattle.db_writer.specs.Stored.{text_or_blob}
use Rattle.db_writer.specs.Written.{with_values}
use Rattle.db_writer.proofs.RejectRows.{bytes-writable}
use Rattle.db_writer.proofs.RowsLaid.{none-pushed, one-pushed, row-ended}
use Rattle.db_writer.proofs.rejects.push_scan.Goals as goal

pub returns : goal.returns
returns c =
    let w = c.args.writer.now in
    let s = c.args.sniffed.now in
    let pushed : Row =
    Int (pos 0) ∷ Int (pos c.args.file_id) ∷ text_or_blob c.args.file.now ∷ Text (c.delim.result ∷ []) ∷ Text (option_to_list c.quote.result) ∷ Text (option_to_list c.escape.result)
    ∷ Text c.newline_bytes.result.now ∷ Int (pos s.skip) ∷ Text c.truth_text.result.now ∷ Int (pos c.len.result) ∷ [] in
    let row : pushed ≡ scan_row s c.args.file_id c.args.file.now =
    λ i. Int (pos 0) ∷ Int (pos c.args.file_id) ∷ text_or_blob c.args.file.now ∷ Text (c.delim.ensures i ∷ []) ∷ Text (option_to_list (c.quote.ensures.value i)) ∷ Text (option_to_list (c.escape.ensures i))
    ∷ Text (c.newline_bytes.ensures i) ∷ Int (pos s.skip) ∷ Text (c.truth_text.ensures i) ∷ Int (pos (c.len.ensures i)) ∷ [] in
    let numbers = one-pushed w _ _ _ _ (one-pushed w _ _ _ _ (none-pushed w) c.in_ok-push_count.ensures.ok c.in_ok-push_count.ensures.counted) c.in_ok-push_count-2.ensures.ok c.in_ok-push_count-2.ensures.counted in
    let delim = one-pushed w _ _ _ _ (one-pushed w _ _ _ _ numbers c.in_ok-push_bytes.ensures.ok (bytes-writable c.args.file.now)) c.in_ok-push_mark.ensures.ok tt in
    let marks = one-pushed w _ _ _ _ (one-pushed w _ _ _ _ delim c.in_ok-push_mark-2.ensures.ok tt) c.in_ok-push_mark-3.ensures.ok tt in
    let lines = one-pushed w _ _ _ _ (one-pushed w _ _ _ _ marks c.in_ok-push_text.ensures.ok tt) c.in_ok-push_count-3.ensures.ok c.in_ok-push_count-3.ensures.counted in
    let all = one-pushed w _ _ _ _ (one-pushed w _ _ _ _ lines c.in_ok-push_text-2.ensures.ok tt) c.in_ok-push_count-4.ensures.ok c.in_ok-push_count-4.ensures.counted in
    record {
      ok = on_ok_weaker c.end_row.result (λ out. row-ended w c.push_count-4.new.self c.end_row.new.self (scan_row s c.args.file_id c.args.file.now) c.requires.none (all.rows ∙ ap (with_values w) row) out) c.end_row.ensures.ok;
      counted = on_ok_weaker c.end_row.result (λ _. subst (All IsWritable) row all.writable) c.end_row.ensures.ok;
    }
