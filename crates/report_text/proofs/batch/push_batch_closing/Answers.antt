use Rattle.std.proofs.Common.{◌≡◌, ◌++◌, List, [], ℕ, length, ap, ◌∙◌, append_assoc}
use Rattle.std.specs.Option.{option_map_or}
use Rattle.std.proofs.lemmas.Result.{IfOk-equal}
use Rattle.report_text.specs.BatchReport.{scan_lines, stored_in, all_in}
use Rattle.report_text.specs.Lines.{rows_line, errors_line, stats_line}
use Rattle.report_text.proofs.FileBooks.{grown}
use Rattle.report_text.proofs.batch.push_batch_closing.Goals as goal

pub returns : goal.returns
returns c =
    let s = c.args.report.now.sniffed.now in
    let batch = c.args.report.now.batch.now in
    let before : List ℕ = c.args.into.now.text in
    let count : List ℕ = rows_line (length batch.rows) in
    let scans : List ℕ = scan_lines s c.args.report.now.store batch.files in
    let errors : List ℕ = errors_line (stored_in c.args.report.now.store batch.files) (all_in batch.files) in
    let stats : List ℕ = option_map_or stats_line c.args.report.now.stats.now [] in
    let t1 : List ℕ = c.push_row_count.new.into.text in
    let t2 : List ℕ = c.push_scans_if.new.into.text in
    let t3 : List ℕ = c.push_errors.new.into.text in
    let p1 : t1 ≡ before ++ count = c.in_ok-push_row_count.ensures ∙ ap (λ n. before ++ rows_line n) (c.rows.ensures ∙ ap length c.table.ensures.rows) in
    let p2 : t2 ≡ before ++ (count ++ scans) = grown before count scans t1 t2 p1 c.in_ok-push_scans_if.ensures in
    let p3 : t3 ≡ before ++ (count ++ scans ++ errors) = grown before (count ++ scans) errors t2 t3 p2
    (c.in_ok-push_errors.ensures ∙ (λ i. t2 ++ errors_line (c.in_ok-stored_in.ensures i) (c.in_ok-all_in.ensures i))) in
    IfOk-equal c.push_stats_of.result _ _ _ c.push_stats_of.ensures (ap (λ xs. xs ++ stats) p3 ∙ append_assoc before (count ++ scans ++ errors) stats)
