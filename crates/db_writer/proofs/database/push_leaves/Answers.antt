use Rattle.std.proofs.Common.{◌≡◌, ◌∙◌, ap, subst}
use Rattle.std.specs.Prelude.{OnOk}
use Rattle.db_pages.specs.Grown.{TreeBytes, tree_over}
use Rattle.db_pages.specs.Image.{with_table}
use Rattle.db_writer.proofs.database.push_leaves.Goals as goal

pub returns : goal.returns
returns c = record {
  ok = subst (λ (t : TreeBytes). OnOk c.push.result (c.push.new.self ≡ with_table c.args.image.now c.args.name.now c.args.sql.now t))
      (c.in_ok-tree.ensures ∙ ap tree_over c.in_ok-pages.ensures) c.push.ensures.ok;
}
