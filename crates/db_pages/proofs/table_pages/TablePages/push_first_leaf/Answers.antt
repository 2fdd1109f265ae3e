use Rattle.std.proofs.Common.{◌≡◌, ◌++◌, ◌∷◌, ◌∙◌, [], true, ap, sym, rules}
use Rattle.std.proofs.lemmas.Result.{on_ok_weaker}
use Rattle.db_pages.specs.Page.{leaf_page}
use Rattle.db_pages.specs.declared.child.Child.{Child}
use Rattle.db_pages.specs.Grown.{Grown}
use Rattle.csv_source.specs.Lists.{is_empty}
use Rattle.db_pages.proofs.Closed.{first_leaf, is_empty-length}
use Rattle.db_pages.proofs.table_pages.TablePages.push_first_leaf.Goals as goal

pub returns : goal.returns
returns c =
    let g : Grown = c.args.self.now in
    let empty : is_empty c.self.inside.leaves.items ≡ true = is_empty-length c.self.inside.leaves.items ∙ search rules in
    let one : Child = record { place = c.next_place-place.result; last = 0 } in
    let page : c.push_leaf-2.new.into.items ≡ leaf_page [] =
    c.in_ok-push_leaf.ensures.ok ∙ ap (λ xs. xs ++ leaf_page c.new.result) c.new-page.ensures.items ∙ ap leaf_page c.new.ensures in
    let leaves : c.push.new.self.items ≡ one ∷ [] = c.in_ok-push.ensures.items ∙ ap (λ xs. xs ++ one ∷ []) c.new-leaves.ensures.items in
    record {
      ok = on_ok_weaker c.push_closed.result
          (λ out. out ∙ first_leaf g c.push_leaf-2.new.into.items c.push.new.self.items c.next_place-place.result
          (ap (λ (f : Grown). is_empty f.leaves) (sym c.self.view_is) ∙ empty) c.next_place-place.ensures page leaves) c.push_closed.ensures.ok;
    }
