use Rattle.std.proofs.Common.{◌∙◌, [], List, ℕ, true, false, get_or, refl, sym, arith}
use Rattle.std.proofs.lemmas.Option.{slice_get-get_or}
use Rattle.npz_writer.proofs.Unmarked.{unmarked-get}
use Rattle.npz_writer.proofs.texts.text_of.Goals as goal

pub returns-then-is_marked : goal.returns-then-is_marked
returns-then-is_marked c =
    let none : List ℕ = [] in
    unmarked-get none c.args.nulls.now c.args.texts.now c.args.row true (get_or c.args.texts.now c.args.row none) none (sym c.if-is_marked.true ∙ c.is_marked.ensures)
    (slice_get-get_or c.args.texts.now c.args.row none (omega arith)) refl

pub returns : goal.returns
returns c =
    let none : List ℕ = [] in
    unmarked-get none c.args.nulls.now c.args.texts.now c.args.row false c.get.result.now c.get.result.now (sym c.if-is_marked.false ∙ c.is_marked.ensures) c.get.ensures refl
