use Rattle.std.proofs.Common.{arith}
use Rattle.std.proofs.lemmas.List.{length-map}
use Rattle.value_types.specs.declared.types.Value.TheVariants as values
use Rattle.value_types.specs.Datum.{typed, text}
use Rattle.column_store.specs.Nullable.{datum_by}
use Rattle.column_store.specs.Numbers.{number_options}
use Rattle.column_store.proofs.ViewCells.{cells_are, all_long}
use Rattle.column_store.proofs.chunk.views.view_of.Goals as goal

pub returns-in-Boolean-clause-cells : goal.returns-in-Boolean-clause-cells
returns-in-Boolean-clause-cells c = rw c.in-Boolean.is (cells_are (λ b. typed (values.Bool b)) c.in-Boolean.column.nulls.items c.in-Boolean.column.values.items _ _ c.nulls.ensures c.values.ensures)

pub returns-in-Boolean-clause-long : goal.returns-in-Boolean-clause-long
returns-in-Boolean-clause-long c = rw c.in-Boolean.is (all_long (λ b. typed (values.Bool b)) c.in-Boolean.column.nulls.items c.in-Boolean.column.values.items _ c.values.ensures)

pub returns-in-Bigint-clause-cells : goal.returns-in-Bigint-clause-cells
returns-in-Bigint-clause-cells c = rw c.in-Bigint.is c.view.ensures.cells

pub returns-in-Bigint-clause-long : goal.returns-in-Bigint-clause-long
returns-in-Bigint-clause-long c = rw c.in-Bigint.is (omega (arith, c.view.ensures.fits, length-map (number_options c.in-Bigint.column.numbers) (datum_by (λ n. typed (values.Int n)))))

pub returns-in-Date-clause-cells : goal.returns-in-Date-clause-cells
returns-in-Date-clause-cells c = rw c.in-Date.is (cells_are (λ n. typed (values.Date n)) c.in-Date.column.nulls.items c.in-Date.column.values.items _ _ c.nulls-in-Date.ensures c.values-in-Date.ensures)

pub returns-in-Date-clause-long : goal.returns-in-Date-clause-long
returns-in-Date-clause-long c = rw c.in-Date.is (all_long (λ n. typed (values.Date n)) c.in-Date.column.nulls.items c.in-Date.column.values.items _ c.values-in-Date.ensures)

pub returns-in-Time-clause-cells : goal.returns-in-Time-clause-cells
returns-in-Time-clause-cells c = rw c.in-Time.is (cells_are (λ n. typed (values.Time n)) c.in-Time.column.nulls.items c.in-Time.column.values.items _ _ c.nulls-in-Time.ensures c.values-in-Time.ensures)

pub returns-in-Time-clause-long : goal.returns-in-Time-clause-long
returns-in-Time-clause-long c = rw c.in-Time.is (all_long (λ n. typed (values.Time n)) c.in-Time.column.nulls.items c.in-Time.column.values.items _ c.values-in-Time.ensures)

pub returns-in-Timestamp-clause-cells : goal.returns-in-Timestamp-clause-cells
returns-in-Timestamp-clause-cells c = rw c.in-Timestamp.is (cells_are (λ n. typed (values.Stamp n)) c.in-Timestamp.column.nulls.items c.in-Timestamp.column.values.items _ _ c.nulls-in-Timestamp.ensures c.values-in-Timestamp.ensures)

pub returns-in-Timestamp-clause-long : goal.returns-in-Timestamp-clause-long
returns-in-Timestamp-clause-long c = rw c.in-Timestamp.is (all_long (λ n. typed (values.Stamp n)) c.in-Timestamp.column.nulls.items c.in-Timestamp.column.values.items _ c.values-in-Timestamp.ensures)

pub returns-in-Varchar-clause-cells : goal.returns-in-Varchar-clause-cells
returns-in-Varchar-clause-cells c = rw c.in-Varchar.is (cells_are (text) c.in-Varchar.column.nulls.items c.in-Varchar.column.texts _ _ c.nulls-in-Varchar.ensures c.texts.ensures)

pub returns-in-Varchar-clause-long : goal.returns-in-Varchar-clause-long
returns-in-Varchar-clause-long c = rw c.in-Varchar.is (all_long (text) c.in-Varchar.column.nulls.items c.in-Varchar.column.texts _ c.texts.ensures)
