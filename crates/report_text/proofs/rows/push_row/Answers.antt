use Rattle.std.proofs.Common.{◌≡◌, ◌++◌, ◌∷◌, [], List, ℕ, Some, take, ap, ◌∙◌, sym, append_assoc, arith, codes, get_or}
use Rattle.std.specs.Prelude.{flat_map, slice_get}
use Rattle.std.proofs.lemmas.List.{take_all}
use Rattle.value_types.specs.Datum.{Datum, datum_of}
use Rattle.report_text.specs.Lines.{cell_text}
use Rattle.report_text.proofs.Texts.{flat_map-take_more, join-flat_map}
use Rattle.report_text.proofs.RowCells.{cell_in, piece}
use Rattle.report_text.proofs.rows.push_row.Goals as goal

pub loop-column-preserved : goal.loop-column-preserved
loop-column-preserved c =
    let rows : List (List Datum) = c.args.chunk.now.rows in
    let cells : List Datum = get_or rows c.args.row [] in
    let k = c.loop-column.column in
    let cell : Datum = datum_of c.cell_at.result in
    let at : slice_get cells k ≡ Some cell = cell_in rows k c.args.row cell c.requires.within c.cell_at.ensures in
    let before : List ℕ = c.args.into.now.text in
    let front : List ℕ = flat_map piece (take k cells) in
    let text : List ℕ = cell_text cell in
    c.in_ok-push_cell.ensures ∙ ap (λ xs. xs ++ text) (c.put.ensures.text ∙ ap (λ xs. xs ++ 124 ∷ []) (c.make_room.ensures.same ∙ c.loop-column.invariant))
    ∙ append_assoc (before ++ (codes "row" ++ front)) (124 ∷ []) text ∙ append_assoc before (codes "row" ++ front) (124 ∷ text)
    ∙ ap (λ xs. before ++ (codes "row" ++ xs)) (sym (flat_map-take_more piece cells k cell at))

pub returns : goal.returns
returns c =
    let cells : List Datum = get_or c.args.chunk.now.rows c.args.row [] in
    let before : List ℕ = c.args.into.now.text in
    let all : take c.loop-column.column cells ≡ cells = take_all c.loop-column.column cells (omega (arith, c.requires.fits.count, c.columns-column-end.ensures)) in
    c.in_ok-push.ensures.ok
    ∙ ap (λ xs. xs ++ 10 ∷ [])
    (c.loop-column.invariant ∙ ap (λ cs. before ++ (codes "row" ++ flat_map piece cs)) all ∙ ap (λ xs. before ++ xs) (sym (join-flat_map 124 cell_text (codes "row") cells)))
    ∙ append_assoc before _ (10 ∷ [])
