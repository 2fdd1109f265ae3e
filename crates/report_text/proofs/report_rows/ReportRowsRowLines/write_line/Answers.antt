use Rattle.std.proofs.Common.{◌≡◌, ◌<◌, [], List, ℕ, ap, arith, get_or, length, map, subst, sym, ◌∙◌}
use Rattle.std.proofs.lemmas.List.{get_or-map, length-map}
use Rattle.value_types.specs.Datum.{Datum}
use Rattle.text_pieces.specs.Writes.{Writes}
use Rattle.report_text.specs.Lines.{row_line}
use Rattle.report_text.proofs.report_rows.ReportRowsRowLines.write_line.Goals as goal

-- a row that has a line
row_within : (rows : List (List Datum)) (lines : List (List ℕ)) (row : ℕ) → map row_line rows ≡ lines → row < length lines → row < length rows
row_within rows lines row is within = omega (arith, within, ap length is, length-map rows row_line)

pub write_row-requires-clause-fits : goal.write_row-requires-clause-fits
write_row-requires-clause-fits g c = c.self.invariant c.args.row [] (row_within c.self.inside.table.rows c.args.self.now c.args.row c.self.view_is c.requires.within)

pub returns : goal.returns
returns g c =
    let rows : List (List Datum) = c.self.inside.table.rows in
    let row : ℕ = c.args.row in
    subst (Writes _ _ _ _ c.write_row.result)
    (sym (get_or-map row_line rows row [] [] (row_within rows c.args.self.now row c.self.view_is c.requires.within)) ∙ ap (λ lines. get_or lines row []) c.self.view_is)
    c.write_row.ensures
