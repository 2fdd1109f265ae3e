use Rattle.std.proofs.Common.{List, ℕ}
use Rattle.std.specs.List.{position_from}
use Rattle.db_writer.proofs.RowsLaid.{drop-at}
use Rattle.npz_writer.specs.LongKeys.{is_long}
use Rattle.npz_writer.proofs.LongNames.{passed, reached}
use Rattle.npz_writer.proofs.long_keys.long_key.Goals as goal

pub returns-then-is_long : goal.returns-then-is_long
returns-then-is_long c =
    let names : List (List ℕ) = c.args.sniffed.now.names in
    let here = drop-at names c.loop-column.column c.get.result.now c.get.ensures in
    reached names c.loop-column.column c.get.result.now (position_from is_long 0 names) here c.loop-column.invariant (cc)

pub loop-column-preserved : goal.loop-column-preserved
loop-column-preserved c =
    let names : List (List ℕ) = c.args.sniffed.now.names in
    let here = drop-at names c.loop-column.column c.get.result.now c.get.ensures in
    passed names c.loop-column.column c.get.result.now (position_from is_long 0 names) here c.loop-column.invariant (cc)
