use Rattle.std.proofs.Common.{List, [], ◌∷◌, ◌++◌, ap, sym, subst, ◌∙◌}
use Rattle.std.specs.Prelude.{All}
use Rattle.std.proofs.lemmas.List.Elements.{All-append, All-cons, All-nil, All-same}
use Rattle.std.proofs.lemmas.Result.{on_ok_weaker}
use Rattle.value_types.specs.Datum.{Datum, text}
use Rattle.value_types.specs.Spelled.{IsSpelledCell}
use Rattle.column_store.specs.TableView.{TableView}
use Rattle.part_tests.proofs.tests.db_writer_written.push.Goals as goal

pub returns-clause-values : goal.returns-clause-values
returns-clause-values c =
    let Spelled = λ (cells : List Datum). All IsSpelledCell cells in
    let old : List (List Datum) = c.args.table.now.rows in
    let one : Datum = text c.args.text.now in
    let is = c.in_ok-push.ensures.ok ∙ ap (λ xs. xs ++ one ∷ []) c.clear.ensures in
    let row = All-cons Spelled c.push.new.self [] (subst Spelled (sym is) (All-cons IsSpelledCell one [] tt (All-nil IsSpelledCell))) (All-nil Spelled) in
    on_ok_weaker c.push_row.result
    (λ more. All-same Spelled c.push_row.new.self.rows (old ++ c.push.new.self ∷ []) (ap (λ (t : TableView). t.rows) more) (All-append Spelled old (c.push.new.self ∷ []) c.requires.values row))
    c.push_row.ensures.ok
