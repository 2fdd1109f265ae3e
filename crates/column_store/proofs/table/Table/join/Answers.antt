use Rattle.std.proofs.Common.{◌≡◌, ◌<◌, ◌∙◌, ◌+◌, ◌++◌, ◌∷◌, [], sym, ap, arith, length, map, get_or, subst}
use Rattle.std.proofs.lemmas.List.{length-append}
use Rattle.column_store.specs.Stacked.{ends_from, rows_in, IsStacked}
use Rattle.column_store.proofs.Stack.{end_of_table, length-ends, stacked_join}
use Rattle.column_store.proofs.table.Table.join.Goals as goal

pub append_ends-requires : goal.append_ends-requires
append_ends-requires c number below =
    let o = c.other.inside in
    let ends : c.deref.result.now ≡ ends_from 0 o.earlier.items = c.deref.ensures.value ∙ c.other.invariant.placed in
    let inside : number < length o.earlier.items = omega (arith, below, ap length ends, length-ends 0 o.earlier.items) in
    let rows : length (rows_in o.earlier.items ++ o.last.rows) ≡ length c.args.other.rows = λ i. length (c.other.view_is i).rows in
    omega (arith, ap (λ es. get_or es number 0) ends, end_of_table o.earlier.items number inside, length-append (rows_in o.earlier.items) o.last.rows)

pub invariant_of-self-2 : goal.invariant_of-self-2
invariant_of-self-2 c =
    let s = c.self.inside in
    let o = c.other.inside in
    let finished : c.replace-finished.result ≡ s.last = c.replace-finished.ensures.value in
    let grows : c.replace-finished.new.dest ≡ o.last = c.replace-finished.ensures.after in
    let moved = rw (c.append.ensures.succeeds (omega (arith, c.in_ok-reserve.ensures.ok))) at c.append.ensures.items in
    let earlier : c.append.new.self.items ≡ (s.earlier.items ++ s.last ∷ []) ++ o.earlier.items =
    moved ∙ ap (λ cs. cs ++ o.earlier.items) (c.push_reserved.ensures.items ∙ (λ i. c.in_ok-reserve.ensures.items i ++ finished i ∷ [])) in
    let ends : c.append_ends.new.ends.items ≡ s.ends.items ++ c.rows-before.result ∷ map (λ end. c.rows-before.result + end) o.ends.items =
    c.in_ok-append_ends.ensures.ok ∙ ap (λ es. s.ends.items ++ c.rows-before.result ∷ map (λ end. c.rows-before.result + end) es) c.deref.ensures.value in
    let types : s.last.types ≡ o.last.types = (λ i. (c.self.view_is i).types) ∙ c.requires ∙ sym (λ i. (c.other.view_is i).types) in
    let before : c.rows-before.result ≡ length (rows_in s.earlier.items ++ s.last.rows) = c.rows-before.ensures ∙ sym (λ i. length (c.self.view_is i).rows) in
    let rows : length (rows_in o.earlier.items ++ o.last.rows) ≡ length c.args.other.rows = λ i. length (c.other.view_is i).rows in
    subst (λ cs. IsStacked cs c.append_ends.new.ends.items c.replace-finished.new.dest) (sym earlier)
    (subst (λ es. IsStacked ((s.earlier.items ++ s.last ∷ []) ++ o.earlier.items) es c.replace-finished.new.dest) (sym ends)
    (subst (λ l. IsStacked ((s.earlier.items ++ s.last ∷ []) ++ o.earlier.items) (s.ends.items ++ c.rows-before.result ∷ map (λ end. c.rows-before.result + end) o.ends.items) l) (sym grows)
    (stacked_join s.earlier.items o.earlier.items s.ends.items o.ends.items s.last o.last c.rows-before.result c.self.invariant c.other.invariant types before (omega arith))))
