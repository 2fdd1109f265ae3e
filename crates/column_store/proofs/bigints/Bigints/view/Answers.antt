use Rattle.std.proofs.Common.{ap, sym, ◌∙◌, arith, length}
use Rattle.value_types.specs.declared.types.Value.TheVariants as values
use Rattle.value_types.specs.Datum.{typed}
use Rattle.value_types.specs.Extent.{extent_of}
use Rattle.value_types.specs.Packed.{numbers_in}
use Rattle.column_store.specs.Numbers.{marks_in, values_in}
use Rattle.column_store.proofs.Options.{length-options}
use Rattle.column_store.proofs.ViewCells.{cells_are}
use Rattle.column_store.proofs.bigints.Bigints.view.Goals as goal

pub new-requires : goal.new-requires
new-requires c =
    let s = c.args.self.now in
    s.exact.exact ∙ ap (extent_of s.measured) (sym (cells_are (λ n. typed (values.Int n)) (marks_in s.numbers) (values_in s.numbers) _ _ c.nulls.ensures c.values.ensures))

pub returns-clause-cells : goal.returns-clause-cells
returns-clause-cells c =
    let n = c.args.self.now.numbers in
    cells_are (λ n. typed (values.Int n)) (marks_in n) (values_in n) _ _ (c.new.ensures.nulls ∙ c.nulls.ensures) (ap numbers_in c.new.ensures.value ∙ c.values.ensures)

pub returns-clause-values : goal.returns-clause-values
returns-clause-values c = ap numbers_in c.new.ensures.value ∙ c.values.ensures

pub returns-clause-fits : goal.returns-clause-fits
returns-clause-fits c =
    let n = c.args.self.now.numbers in
    omega (arith, length-options (marks_in n) (values_in n), ap length (ap numbers_in c.new.ensures.value ∙ c.values.ensures))
