use Rattle.std.proofs.Common.{◌≡◌, false, take}
use Rattle.std.specs.List.{list_any}
use Rattle.column_store.specs.Stacked.{rows_in}
use Rattle.column_store.specs.TableView.{column_of}
use Rattle.npz_writer.specs.Arrays.{is_null}
use Rattle.npz_writer.proofs.columns.has_null.Given as goal

-- no cell of the chunks so far is null
abbrev pub invariant-loop-chunk : goal.invariant-loop-chunk
invariant-loop-chunk l = list_any is_null (column_of (rows_in (take l.chunk-index l.earlier)) l.column) ≡ false
