use Rattle.std.proofs.Common.{◌≡◌, ℕ, List, ◌∙◌, ap, subst}
use Rattle.std.specs.Prelude.{IfOk}
use Rattle.std.proofs.lemmas.Result.{IfOk-weaker}
use Rattle.db_pages.specs.Image.{Imaged, Tabled}
use Rattle.db_writer.specs.Database.{database, errors_table, rows_table, scans_table, with_tabled}
use Rattle.db_writer.proofs.TableTrees.{three-tables}
use Rattle.db_writer.proofs.database.write_database.Goals as goal

pub returns : goal.returns
unfolding database
returns g c =
    let rows : Tabled = rows_table c.args.contents.now.table.now c.args.contents.now.sniffed.now c.args.contents.now.rows.now.rows in
    let scans : Tabled = scans_table c.args.contents.now.sniffed.now c.args.contents.now.files.now in
    let errors : Tabled = errors_table c.args.contents.now.files.now in
    let all = c.in_ok-push_errors_table.ensures.ok
    ∙ ap (λ (i : Imaged). with_tabled i errors) (c.in_ok-push_scans_table.ensures.ok ∙ ap (λ (i : Imaged). with_tabled i scans) (c.in_ok-push_rows_table.ensures.ok ∙ ap (λ (i : Imaged). with_tabled i rows) c.new-image.ensures)) in
    record {
      value = subst (λ (i : List ℕ). IfOk c.finish.result (λ text. text ≡ i)) (three-tables c.tables_follow.ensures rows scans errors c.push_errors_table.new.image all) c.finish.ensures.value;
      few = c.finish.ensures.few;
      counted = IfOk-weaker c.finish.result _ _ (λ _ _. record { scans = c.in_ok-push_scans_table.ensures.counted; rejects = c.in_ok-push_errors_table.ensures.counted }) c.finish.ensures.few;
    }
