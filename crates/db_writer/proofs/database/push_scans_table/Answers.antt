use Rattle.std.proofs.Common.{◌≡◌, ℕ, List, ◌∙◌, ap, codes, map, subst}
use Rattle.std.specs.Prelude.{OnOk}
use Rattle.std.proofs.lemmas.Result.{IfOk-weaker}
use Rattle.db_records.specs.Record.{record_bytes}
use Rattle.db_pages.specs.Grown.{Filled, TreeBytes, closed, tree_of, tree_over}
use Rattle.db_pages.specs.Image.{with_table}
use Rattle.db_pages.specs.Laid.{next_place}
use Rattle.db_writer.specs.Rejects.{scan_rows}
use Rattle.db_writer.specs.Written.{Written, with_records}
use Rattle.db_writer.proofs.TableTrees.{tree-written}
use Rattle.db_writer.proofs.database.push_scans_table.Goals as goal

pub returns : goal.returns
returns c =
    let image = c.args.image.now in
    let new = c.push_leaves.new.image in
    let records : List (List ℕ) = map record_bytes (scan_rows c.args.sniffed.now 0 c.args.files.now) in
    let written = c.in_ok-push_scans.ensures.ok ∙ ap (λ (w : Written). with_records w records) c.new-writer.ensures in
    let tree = ap (λ (f : Filled). tree_over (closed f)) c.into_leaves.ensures ∙ tree-written c.next_place.result c.push_scans.new.writer records written ∙ ap (λ n. tree_of n records) c.next_place.ensures in record {
      ok = subst (λ (sql : List ℕ). OnOk c.push_leaves.result (new ≡ with_table image (codes "reject_scans") sql (tree_of (next_place 1 image.trees) records))) c.scans_text.ensures
          (subst (λ (t : TreeBytes). OnOk c.push_leaves.result (new ≡ with_table image (codes "reject_scans") c.scans_text.result.now t)) tree c.push_leaves.ensures.ok);
      counted = IfOk-weaker c.push_leaves.result _ _ (λ _ _. c.in_ok-push_scans.ensures.counted) c.push_leaves.ensures.ok;
    }
