use Rattle.std.proofs.Common.{◌≡◌, ◌+◌, ◌-◌, ◌∙◌, ◌++◌, List, ap, sym, arith, rules, length}
use Rattle.std.proofs.lemmas.Result.{IfOk-weaker, on_ok_weaker}
use Rattle.db_pages.specs.declared.child.Child.{Child}
use Rattle.db_pages.specs.Levels.{level_children, level_pages, levels_pages, root_place}
use Rattle.db_pages.proofs.Appends.{two_behind}
use Rattle.db_pages.proofs.Grouping.{groups_of, levels-more}
use Rattle.db_pages.proofs.levels.+push_levels.Goals as goal

pub returns-clause-pages : goal.returns-clause-pages
returns-clause-pages t c =
    let level : List Child = c.push_level.new.level.items in
    let children : List Child = c.args.children.now in
    let count : c.len.result ≡ length level = search rules in
    let next : c.in_ok-next.next ≡ c.args.place + c.len.result = grind arith in
    let is : level ≡ level_children c.args.place (groups_of children) =
    c.in_ok-push_level.ensures.level ∙ ap (λ xs. xs ++ level_children c.args.place (groups_of children)) c.new-level.ensures.items in
    let more = levels-more c.args.levels c.args.place c.in_ok-next.next children level (omega (arith, c.if-levels-eq0.false)) c.if-children-le1.false
    is (next ∙ ap (λ n. c.args.place + n) count) in
    on_ok_weaker c.push_levels.result
    (λ out. two_behind c.args.into.now.items (level_pages (groups_of children)) (levels_pages (c.args.levels - 1) c.in_ok-next.next level) _ _
    c.in_ok-push_level.ensures.pages (out ∙ ap (λ xs. c.push_level.new.into.items ++ levels_pages (c.args.levels - 1) c.in_ok-next.next xs) c.deref.ensures.value)
    ∙ ap (λ xs. c.args.into.now.items ++ xs) (sym more.0)) c.push_levels.ensures.pages

pub returns-clause-root : goal.returns-clause-root
returns-clause-root t c =
    let level : List Child = c.push_level.new.level.items in
    let children : List Child = c.args.children.now in
    let count : c.len.result ≡ length level = search rules in
    let next : c.in_ok-next.next ≡ c.args.place + c.len.result = grind arith in
    let is : level ≡ level_children c.args.place (groups_of children) =
    c.in_ok-push_level.ensures.level ∙ ap (λ xs. xs ++ level_children c.args.place (groups_of children)) c.new-level.ensures.items in
    let more = levels-more c.args.levels c.args.place c.in_ok-next.next children level (omega (arith, c.if-levels-eq0.false)) c.if-children-le1.false
    is (next ∙ ap (λ n. c.args.place + n) count) in
    IfOk-weaker c.push_levels.result _ _ (λ root found. found ∙ ap (λ xs. root_place (c.args.levels - 1) c.in_ok-next.next xs) c.deref.ensures.value ∙ sym more.1) c.push_levels.ensures.root
