use Rattle.std.proofs.Common.{◌≢◌, arith, rules, sym, subst}
use Rattle.std.specs.List.{All}
use Rattle.std.proofs.lemmas.List.{take_all}
use Rattle.std.proofs.lemmas.List.Elements.{All-more}
use Rattle.std.proofs.lemmas.Option.{get_or_from_slice_get}
use Rattle.value_types.specs.declared.types.ColumnType.{ColumnType}
use Rattle.value_types.specs.declared.types.ColumnType.TheVariants.{Varchar}
use Rattle.range_scan.proofs.fast_rows.kinds.has_no_texts.Goals as goal

abbrev IsNoText : ColumnType → Type 0
IsNoText ty = ty ≢ Varchar

pub loop-column-preserved : goal.loop-column-preserved
loop-column-preserved c =
    let types = c.args.types.now in
    let ty = c.get.result in
    All-more IsNoText types c.loop-column.column ty (omega (arith, c.len-column-end.ensures)) c.loop-column.invariant
    (subst IsNoText (sym (get_or_from_slice_get types c.loop-column.column ty ty c.get.ensures)) (search rules))

pub returns : goal.returns
returns c = λ is. subst (All IsNoText) (take_all c.loop-column.column c.args.types.now (omega (arith, c.len-column-end.ensures))) c.loop-column.invariant
