use Rattle.std.proofs.Common.{arith, map, subst, sym}
use Rattle.std.specs.Prelude.{All}
use Rattle.value_types.specs.declared.types.Value.TheVariants as values
use Rattle.value_types.specs.Datum.{typed}
use Rattle.value_types.specs.Packed.{IsWithin}
use Rattle.column_store.specs.Measured.{IsMeasured}
use Rattle.column_store.specs.Nullable.{datum_by}
use Rattle.column_store.proofs.bigints.Bigints.pack.Goals as goal

pub extent_of_values-requires : goal.extent_of_values-requires
extent_of_values-requires c = omega (arith, c.len-count.ensures, c.view.ensures.fits)

pub pack-requires : goal.pack-requires
pack-requires c = subst (All (IsWithin c.in-Some.extent)) c.view.ensures.values c.in-Some.ensures

pub invariant_of-self : goal.invariant_of-self
invariant_of-self c =
    let s = c.args.self.now in
    record {
      exact = subst (λ os. IsMeasured s.measured s.extent (map (datum_by (λ n. typed (values.Int n))) os)) (sym c.pack.ensures) s.exact;
    }
