-- The cells of values that have marks.
use Rattle.std.specs.Prelude.{Bool, List, [], ◌∷◌, if◌then◌else◌, ℤ}
use Rattle.value_types.specs.declared.types.Value.TheVariants as values
use Rattle.value_types.specs.Datum.{Datum, null, typed}

-- the cells of values, each null where its mark is set; those behind the last mark aren't null
abbrev pub marked : {A : Type 0} → (A → Datum) → List Bool → List A → List Datum
marked cell nulls [] = []
marked cell [] (value ∷ values) = cell value ∷ marked cell [] values
marked cell (is_null ∷ nulls) (value ∷ values) = (if is_null then null else cell value) ∷ marked cell nulls values

-- the cells of a BIGINT column
abbrev pub bigint_cells : List Bool → List ℤ → List Datum
bigint_cells nulls numbers = marked (λ n. typed (values.Int n)) nulls numbers
