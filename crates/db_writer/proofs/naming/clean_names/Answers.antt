use Rattle.std.proofs.Common.{◌≡◌, ◌+◌, List, [], ◌∷◌, ◌++◌, ℕ, map, drop, sym, ◌∙◌, ap, append_assoc}
use Rattle.db_writer.specs.Naming.{clean_name}
use Rattle.db_writer.proofs.RowsLaid.{drop-at}
use Rattle.db_writer.proofs.naming.clean_names.Goals as goal

-- one name more
go_on : (made more : List (List ℕ)) (clean : List ℕ) (later whole : List (List ℕ)) → more ≡ made ++ clean ∷ [] → made ++ clean ∷ later ≡ whole → more ++ later ≡ whole
go_on made more clean later whole grown before = ap (λ names. names ++ later) grown ∙ append_assoc made (clean ∷ []) later ∙ before

pub loop-column-preserved : goal.loop-column-preserved
loop-column-preserved c =
    let column = c.loop-column.column in
    let made : List (List ℕ) = c.loop-column.made in
    let clean : List ℕ = c.in_ok-clean.clean.items in
    let later : List (List ℕ) = map clean_name (drop (column + 1) c.args.names.now) in
    let here : map clean_name (drop column c.args.names.now) ≡ clean ∷ later =
    ap (map clean_name) (drop-at c.args.names.now column c.get.result.now c.get.ensures) ∙ ap (λ n. n ∷ later) (sym c.in_ok-clean.ensures) in
    go_on made _ clean later _ (c.in_ok-push.ensures.ok ∙ ap (λ n. made ++ n ∷ []) c.deref.ensures.value) (ap (λ ns. made ++ ns) (sym here) ∙ c.loop-column.invariant)
