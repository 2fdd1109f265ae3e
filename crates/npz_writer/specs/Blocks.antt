-- Values of rows as they are put into blocks of bytes.
use Rattle.std.specs.Prelude.{ℕ, ◌+◌, ℤ, Bool, if◌then◌else◌, List, [], ◌∷◌, length}
use Rattle.value_types.specs.Datum.{Datum}
use Rattle.value_types.specs.Packed.{packed_numbers}
use Rattle.npz_writer.specs.declared.numbers.Numbers.{Numbers}
use Rattle.npz_writer.specs.declared.numbers.Numbers.TheVariants as numbers
use Rattle.npz_writer.specs.declared.numbers.NumberColumn.{NumberColumn}
use Rattle.npz_writer.specs.Arrays.{text_in}

-- values, with another one in the place of each that is marked as null; those behind the last mark aren't null
abbrev pub unmarked : {A : Type 0} → A → List Bool → List A → List A
unmarked other nulls [] = []
unmarked other [] (value ∷ values) = value ∷ unmarked other [] values
unmarked other (is_null ∷ nulls) (value ∷ values) = (if is_null then other else value) ∷ unmarked other nulls values

-- numbers, whatever they are kept in
abbrev pub numbers_of : Numbers → List ℤ
numbers_of (numbers.Days days) = days.now
numbers_of (numbers.Wide wide) = wide.now
numbers_of (numbers.Packed packed) = packed_numbers packed.now

-- the numbers of a column, each null one as it is written
abbrev pub written_numbers : NumberColumn → List ℤ
written_numbers column = unmarked column.null column.nulls.now (numbers_of column.numbers)

-- where the texts of cells end, the first of which begins at a place
abbrev pub end_of : ℕ → List Datum → ℕ
end_of begin [] = begin
end_of begin (cell ∷ cells) = end_of (begin + length (text_in cell)) cells
