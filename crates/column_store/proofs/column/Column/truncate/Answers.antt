use Rattle.value_types.specs.declared.types.Value.TheVariants as values
use Rattle.value_types.specs.Datum.{text, typed}
use Rattle.column_store.proofs.CutCells.{cut_cells}
use Rattle.column_store.proofs.column.Column.truncate.Goals as goal

pub returns-in-Boolean-clause-value : goal.returns-in-Boolean-clause-value
returns-in-Boolean-clause-value c = rw c.in-Boolean.is (cut_cells (λ v. typed (values.Bool v)) c.args.count _ _ c.truncate.ensures.value)

pub returns-in-Bigint-clause-value : goal.returns-in-Bigint-clause-value
returns-in-Bigint-clause-value c = rw c.in-Bigint.is (cut_cells (λ v. typed (values.Int v)) c.args.count _ _ c.truncate-in-Bigint.ensures.value)

pub returns-in-Date-clause-value : goal.returns-in-Date-clause-value
returns-in-Date-clause-value c = rw c.in-Date.is (cut_cells (λ v. typed (values.Date v)) c.args.count _ _ c.truncate-in-Date.ensures.value)

pub returns-in-Time-clause-value : goal.returns-in-Time-clause-value
returns-in-Time-clause-value c = rw c.in-Time.is (cut_cells (λ v. typed (values.Time v)) c.args.count _ _ c.truncate-in-Time.ensures.value)

pub returns-in-Timestamp-clause-value : goal.returns-in-Timestamp-clause-value
returns-in-Timestamp-clause-value c = rw c.in-Timestamp.is (cut_cells (λ v. typed (values.Stamp v)) c.args.count _ _ c.truncate-in-Timestamp.ensures.value)

pub returns-in-Varchar-clause-value : goal.returns-in-Varchar-clause-value
returns-in-Varchar-clause-value c = rw c.in-Varchar.is (cut_cells text c.args.count _ _ c.truncate-in-Varchar.ensures.value)
