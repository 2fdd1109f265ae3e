use Rattle.std.proofs.Common.{◌≡◌, ℕ, List, ◌∙◌, ap, subst}
use Rattle.std.specs.Prelude.{OnOk}
use Rattle.db_pages.specs.Grown.{TreeBytes, tree_of, tree_over}
use Rattle.db_pages.specs.Image.{with_table}
use Rattle.db_pages.specs.Laid.{next_place}
use Rattle.db_writer.specs.Written.{records_of}
use Rattle.db_writer.proofs.database.push_rows_table.Goals as goal

pub returns : goal.returns
returns g c =
    let image = c.args.image.now in
    let new = c.push.new.self in
    let name : List ℕ = c.args.contents.now.table.now in
    let records : List (List ℕ) = records_of c.args.contents.now.rows.now.rows in
    let tree = c.in_ok-tree.ensures ∙ ap tree_over c.in_ok-pages.ensures.ok ∙ ap (λ n. tree_of n records) c.next_place.ensures in record {
      ok = subst (λ (sql : List ℕ). OnOk c.push.result (new ≡ with_table image name sql (tree_of (next_place 1 image.trees) records))) (c.deref.ensures.value ∙ c.in_ok-sql.ensures)
          (subst (λ (t : TreeBytes). OnOk c.push.result (new ≡ with_table image name c.deref.result.now t)) tree c.push.ensures.ok);
    }
