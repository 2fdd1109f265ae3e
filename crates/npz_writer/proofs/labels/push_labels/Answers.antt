use Rattle.std.proofs.Common.{List, ℕ, [], ◌+◌, ◌∷◌, ◌++◌, ◌∙◌, drop, map}
use Rattle.std.specs.List.{zip}
use Rattle.db_writer.proofs.RowsLaid.{drop-at}
use Rattle.value_types.specs.declared.types.ColumnType.{ColumnType}
use Rattle.npz_writer.specs.Labels.{label}
use Rattle.npz_writer.proofs.Grown.{made-more}
use Rattle.npz_writer.proofs.labels.push_labels.Goals as goal

pub loop-column-preserved : goal.loop-column-preserved
loop-column-preserved c =
    let keys : List (List ℕ) = c.args.keys.now in
    let types : List ColumnType = c.args.types.now in
    let k : ℕ = c.loop-column.column in
    let key : List ℕ = c.get.result.now in
    let ty : ColumnType = c.get-in-loop-column.result in
    record {
      types = c.in_ok-push_label.ensures.types ∙ c.loop-column.invariant.types;
      rows = made-more c.loop-column.table.rows c.push_label.new.table.rows (label (key, ty) ∷ []) (map label (zip (drop k keys) (drop k types)))
          (map label (zip (drop (k + 1) keys) (drop (k + 1) types))) (c.args.table.now.rows ++ map label (zip keys types)) c.in_ok-push_label.ensures.rows
          (λ i. map label (zip (drop-at keys k key c.get.ensures i) (drop-at types k ty c.get-in-loop-column.ensures i))) c.loop-column.invariant.rows;
    }
