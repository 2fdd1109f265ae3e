use Rattle.std.proofs.Common.{◌≡◌, ℕ, ◌+◌, List, ◌++◌, drop, Some, ap, sym, ◌∙◌, append_assoc}
use Rattle.std.specs.Prelude.{slice_get}
use Rattle.value_types.specs.declared.types.ColumnType.{ColumnType}
use Rattle.report_text.specs.Lines.{column_line, column_lines_from}
use Rattle.report_text.proofs.Texts.{drop-get}
use Rattle.report_text.proofs.found.push_columns.Goals as goal

-- the lines from a column on begin with its line
one_more : (types : List ColumnType) (names : List (List ℕ)) (k : ℕ) (ty : ColumnType) (name : List ℕ) → slice_get types k ≡ Some ty → slice_get names k ≡ Some name
    → column_lines_from k (drop k types) (drop k names) ≡ column_line k ty name ++ column_lines_from (k + 1) (drop (k + 1) types) (drop (k + 1) names)
one_more types names k ty name type_at name_at = λ i. column_lines_from k (drop-get types k ty type_at i) (drop-get names k name name_at i)

pub loop-column-preserved : goal.loop-column-preserved
loop-column-preserved c =
    let k = c.loop-column.column in
    let types = c.args.sniffed.now.types in
    let names = c.args.sniffed.now.names in
    let rest = column_lines_from (k + 1) (drop (k + 1) types) (drop (k + 1) names) in
    let before = c.loop-column.into.text in
    ap (λ xs. xs ++ rest) c.in_ok-push_column.ensures ∙ append_assoc before _ rest
    ∙ ap (λ xs. before ++ xs) (sym (one_more types names k c.get-ty.result c.get-name.result.now c.get-ty.ensures c.get-name.ensures))
    ∙ c.loop-column.invariant
