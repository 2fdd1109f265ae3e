use Rattle.std.proofs.Common.{◌≡◌, Bool, [], get_or, sym, ap, subst, ◌∙◌, arith}
use Rattle.std.specs.Prelude.{OnOk, if◌then◌else◌}
use Rattle.std.proofs.lemmas.Option.{get_or_from_slice_get}
use Rattle.value_types.specs.Datum.{Datum, null, text}
use Rattle.column_taps.specs.Pairs.{pairs_and_cell}
use Rattle.column_taps.specs.KeptPairs.{pairs_in}
use Rattle.value_types.proofs.MarkedSteps.{marked_next}
use Rattle.column_taps.proofs.pairs.KeptPairs.add_text.Goals as goal

pub returns-then-is_marked-clause-ok : goal.returns-then-is_marked-clause-ok
returns-then-is_marked-clause-ok c =
    let nulls = c.args.column.now.nulls.now in
    let texts = c.args.column.now.texts.now in
    let row = c.args.row in
    let cell = marked_next text nulls texts row null [] (omega (arith, c.requires)) in
    sym (ap (pairs_and_cell c.args.column.now.place (pairs_in c.args.self.now)) (cell ∙ ap (λ (b : Bool). if b then null else text (get_or texts row [])) (sym c.is_marked.ensures ∙ c.if-is_marked.true)))

pub returns-clause-ok : goal.returns-clause-ok
returns-clause-ok c =
    let nulls = c.args.column.now.nulls.now in
    let texts = c.args.column.now.texts.now in
    let row = c.args.row in
    let cell = marked_next text nulls texts row null [] (omega (arith, c.requires)) in
    let there = cell ∙ ap (λ (b : Bool). if b then null else text (get_or texts row [])) (sym c.is_marked.ensures ∙ c.if-is_marked.false) ∙ ap text (get_or_from_slice_get texts row c.get.result.now [] c.get.ensures) in
    subst (λ (d : Datum). OnOk c.add.result (pairs_in c.add.new.self ≡ pairs_and_cell c.args.column.now.place (pairs_in c.args.self.now) d)) (sym there) c.add.ensures.ok
