use Rattle.std.proofs.Common.{ap, ◌∙◌, arith}
use Rattle.std.proofs.lemmas.List.{length-map}
use Rattle.value_types.specs.declared.types.Value.TheVariants as values
use Rattle.value_types.specs.Datum.{typed}
use Rattle.value_types.specs.Extent.{extent_of}
use Rattle.column_store.specs.Nullable.{datum_by}
use Rattle.column_store.specs.Numbers.{number_options}
use Rattle.column_store.proofs.bigints.Bigints.measure.Goals as goal

pub extent-self-requires : goal.extent-self-requires
extent-self-requires c = omega (arith, c.len-count.ensures, c.view.ensures.fits)

pub invariant_of-self : goal.invariant_of-self
invariant_of-self c =
    let n = c.args.self.now.numbers in
    record {
      exact = record {
        within = omega (arith, c.len-count.ensures, length-map (number_options n) (datum_by (λ n. typed (values.Int n))));
        exact = c.extent-self.ensures ∙ ap (extent_of c.len-count.result) c.view.ensures.cells;
      };
    }
