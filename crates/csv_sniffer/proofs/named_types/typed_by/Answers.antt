use Rattle.std.proofs.Common.{◌+◌, ◌≤◌, length, drop, arith}
use Rattle.csv_sniffer.specs.NamedTypes.{types_by_name}
use Rattle.csv_sniffer.proofs.NamedTypes.{types_go_on, none_left}
use Rattle.csv_sniffer.proofs.named_types.typed_by.Goals as goal

pub returns : goal.returns
returns c =
    let given = c.args.given.now in
    let names = c.args.names.now in
    let found = c.args.found.now in
    let passed : length found ≤ c.loop-column.column = let test = c.loop-column-test.false in let many = c.len-column-end.ensures in omega (arith, test, many) in
    none_left given names c.loop-column.types (types_by_name given names found) found c.loop-column.column passed c.loop-column.invariant

pub loop-column-preserved : goal.loop-column-preserved
loop-column-preserved c =
    let given = c.args.given.now in
    let names = c.args.names.now in
    let found = c.args.found.now in
    let column = c.loop-column.column in
    types_go_on c.loop-column.types _ (types_by_name given (drop column names) (drop column found)) (types_by_name given names found)
    (types_by_name given (drop (column + 1) names) (drop (column + 1) found)) c.final_type.result c.in_ok-push.ensures.ok c.final_type.ensures c.loop-column.invariant
