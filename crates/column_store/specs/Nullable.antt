-- Values and, beside each, whether it is null.
use Rattle.std.specs.Prelude.{ℕ, Bool, if◌then◌else◌, List, [], ◌∷◌, Option, Some, None, min, vec_capacity}
use Rattle.value_types.specs.Datum.{Datum, null}
use Rattle.column_store.specs.declared.nullable.Nullable.{Nullable}
use Rattle.column_store.specs.declared.nullable_texts.NullableTexts.{NullableTexts}

-- the values, and none for each null; behind the last mark none is null
abbrev pub options_of : {A : Type 0} → List Bool → List A → List (Option A)
options_of nulls [] = []
options_of [] (value ∷ values) = Some value ∷ options_of [] values
options_of (is_null ∷ nulls) (value ∷ values) = (if is_null then None else Some value) ∷ options_of nulls values

abbrev pub options : {A : Type 0} → Nullable A → List (Option A)
options column = options_of column.nulls.items column.values.items

abbrev pub texts_or_null : NullableTexts → List (Option (List ℕ))
texts_or_null column = options_of column.nulls.items column.texts

-- how many values fit into the memory that it has
abbrev pub room : {A : Type 0} → Nullable A → ℕ
room column = min (vec_capacity column.nulls) (vec_capacity column.values)

-- a cell that may be null
abbrev pub datum_by : {A : Type 0} → (A → Datum) → Option A → Datum
datum_by make None = null
datum_by make (Some value) = make value
