use Rattle.std.proofs.Common.{◌∷◌, ◌+◌, ◌≤◌, length, drop, sym, ap, ◌∙◌, arith}
use Rattle.std.specs.Prelude.{unwrap_or}
use Rattle.value_types.specs.declared.types.ColumnType.{ColumnType}
use Rattle.csv_sniffer.specs.NamedTypes.{types_by_name}
use Rattle.csv_sniffer.proofs.NamedTypes.{named_at, unnamed_at}
use Rattle.csv_sniffer.proofs.named_types.final_type.Goals as goal

pub returns-then-column-len : goal.returns-then-column-len
returns-then-column-len c =
    let given = c.args.given.now in
    let names = c.args.names.now in
    let found = c.args.found.now in
    let column = c.args.column in
    let ty = c.get-ty.result in
    named_at given names found column c.get.result.now ty c.get.ensures c.get-ty.ensures
    ∙ ap (λ (t : ColumnType). t ∷ types_by_name given (drop (column + 1) names) (drop (column + 1) found)) (sym (c.unwrap_or.ensures ∙ ap (λ o. unwrap_or o ty) c.type_given.ensures))

pub returns-else-column-len : goal.returns-else-column-len
returns-else-column-len c =
    let few : length c.args.names.now ≤ c.args.column = let past = c.if-column-len.false in let many = c.len.ensures in omega (arith, past, many) in
    unnamed_at c.args.given.now c.args.names.now c.args.found.now c.args.column c.get-ty.result few c.get-ty.ensures
