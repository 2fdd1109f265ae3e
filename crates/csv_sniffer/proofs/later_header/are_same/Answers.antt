use Rattle.std.proofs.Common.{◌&&◌, ◌+◌, ◌∙◌, ap, sym, drop}
use Rattle.std.specs.Cmp.Lexicographic.{pointwise}
use Rattle.std.specs.Str.{bytes_eq}
use Rattle.std.proofs.lemmas.Bool.{not-false, not-true}
use Rattle.csv_sniffer.proofs.LaterHeaders.{next_names}
use Rattle.csv_sniffer.proofs.later_header.are_same.Goals as goal

pub returns-then-ne : goal.returns-then-ne
returns-then-ne c =
    let column = c.loop-column.column in
    let differ = not-true _ (sym c.ne.ensures ∙ c.if-ne.true) in
    ap (λ t. t && pointwise bytes_eq (drop (column + 1) c.args.names.now) (drop (column + 1) c.args.others.now)) (sym differ)
    ∙ next_names c.args.names.now c.args.others.now column c.get.result.now c.get-in-loop-column.result.now _ c.get.ensures c.get-in-loop-column.ensures c.loop-column.invariant

pub loop-column-preserved : goal.loop-column-preserved
loop-column-preserved c =
    let column = c.loop-column.column in
    let same = not-false _ (sym c.ne.ensures ∙ c.if-ne.false) in
    ap (λ t. t && pointwise bytes_eq (drop (column + 1) c.args.names.now) (drop (column + 1) c.args.others.now)) (sym same)
    ∙ next_names c.args.names.now c.args.others.now column c.get.result.now c.get-in-loop-column.result.now _ c.get.ensures c.get-in-loop-column.ensures c.loop-column.invariant
