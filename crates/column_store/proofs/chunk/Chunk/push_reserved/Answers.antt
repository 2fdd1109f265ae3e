use Rattle.std.proofs.Common.{◌≡◌, ◌∙◌, ◌-◌, ◌++◌, ◌∷◌, [], sym, ap, arith, refl}
use Rattle.std.proofs.lemmas.List.{take_all}
use Rattle.value_types.specs.Datum.{datum_of}
use Rattle.column_store.proofs.Filled.{filled_finish, same_view, seen_finish}
use Rattle.column_store.proofs.NextCells.{fits_next, row_ended, take_next}
use Rattle.column_store.proofs.chunk.Chunk.push_reserved.Goals as goal

pub push_cell_reserved-requires-clause-fits : goal.push_cell_reserved-requires-clause-fits
push_cell_reserved-requires-clause-fits c =
    let so = c.loop-column.invariant in
    fits_next c.args.self.now.types c.args.cells.now c.loop-column.column (datum_of c.get.result) c.loop-column.self.types c.loop-column.self.unfinished (λ i. (so i).types) (λ i. (so i).unfinished) (omega arith) c.requires.fits c.get.ensures

pub loop-column-preserved : goal.loop-column-preserved
loop-column-preserved c =
    let so = c.loop-column.invariant in
    c.push_cell_reserved.ensures
    ∙ same_view (λ i. (so i).types) (λ i. (so i).rows) ((λ i. (so i).unfinished ++ datum_of c.get.result ∷ []) ∙ take_next c.args.cells.now c.loop-column.column (datum_of c.get.result) c.get.ensures) (λ i. (so i).spare)

pub invariant_of-self : goal.invariant_of-self
invariant_of-self c =
    let s = c.self.inside in
    let so = c.loop-column.invariant in
    let all = row_ended c.args.self.now.types c.args.cells.now c.loop-column.column c.loop-column.self.types c.loop-column.self.unfinished (λ i. (so i).types) (λ i. (so i).unfinished) (omega arith) c.requires.fits in
    let spare : s.spare ≡ c.args.self.now.spare = (λ i. (c.self.view_is i).spare) ∙ (λ i. (so i).spare) in
    filled_finish c.self.invariant c.self.view_is all (s.spare - 1) refl (omega (arith, c.self.invariant.countable, c.requires.room))

pub returns : goal.returns
returns c =
    let s = c.self.inside in
    let so = c.loop-column.invariant in
    let old = c.args.self.now in
    let all = row_ended c.args.self.now.types c.args.cells.now c.loop-column.column c.loop-column.self.types c.loop-column.self.unfinished (λ i. (so i).types) (λ i. (so i).unfinished) (omega arith) c.requires.fits in
    seen_finish c.self.invariant c.self.view_is all (s.spare - 1)
    ∙ same_view (λ i. (so i).types)
    ((λ i. (so i).rows ++ (so i).unfinished ∷ []) ∙ ap (λ row. old.rows ++ row ∷ []) (take_all c.loop-column.column c.args.cells.now (omega arith)))
    (sym c.requires.whole) ((λ i. (c.self.view_is i).spare - 1) ∙ (λ i. (so i).spare - 1))
