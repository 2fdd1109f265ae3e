use Rattle.std.proofs.Common.{◌≡◌, arith, rules, sym, subst}
use Rattle.std.specs.List.{All}
use Rattle.std.proofs.lemmas.List.{take_all}
use Rattle.std.proofs.lemmas.List.Elements.{All-more}
use Rattle.std.proofs.lemmas.Option.{get_or_from_slice_get}
use Rattle.value_types.specs.declared.types.ColumnType.{ColumnType}
use Rattle.value_types.specs.declared.types.ColumnType.TheVariants.{Bigint}
use Rattle.range_scan.proofs.fast_rows.kinds.all_bigint.Goals as goal

abbrev IsBigint : ColumnType → Type 0
IsBigint ty = ty ≡ Bigint

pub loop-column-preserved : goal.loop-column-preserved
loop-column-preserved c =
    let types = c.args.types.now in
    let ty = c.get.result in
    All-more IsBigint types c.loop-column.column ty (omega (arith, c.len-column-end.ensures)) c.loop-column.invariant
    (subst IsBigint (sym (get_or_from_slice_get types c.loop-column.column ty ty c.get.ensures)) (search rules))

pub returns : goal.returns
returns c = λ is. subst (All IsBigint) (take_all c.loop-column.column c.args.types.now (omega (arith, c.len-column-end.ensures))) c.loop-column.invariant
