-- The numbers of a BIGINT column, whatever they are kept in.
use Rattle.std.specs.Prelude.{ℕ, ℤ, Bool, List, Option, ⊤}
use Rattle.value_types.specs.Packed.{packed_numbers}
use Rattle.column_store.specs.declared.numbers.Numbers.{Numbers}
use Rattle.column_store.specs.declared.numbers.Numbers.TheVariants as numbers
use Rattle.column_store.specs.declared.packed_numbers.PackedNumbers.{PackedNumbers}
use Rattle.column_store.specs.Nullable.{options_of, room}

-- the marks of the first numbers
abbrev pub marks_in : Numbers → List Bool
marks_in (numbers.Wide column) = column.nulls.items
marks_in (numbers.Packed column) = column.nulls.items

-- the numbers, those that are null among them
abbrev pub values_in : Numbers → List ℤ
values_in (numbers.Wide column) = column.values.items
values_in (numbers.Packed column) = packed_numbers column.packed

abbrev pub packed_options : PackedNumbers → List (Option ℤ)
packed_options column = options_of column.nulls.items (packed_numbers column.packed)

abbrev pub number_options : Numbers → List (Option ℤ)
number_options column = options_of (marks_in column) (values_in column)

-- how many numbers fit into the memory that it has: none where they are packed
abbrev pub number_room : Numbers → ℕ
number_room (numbers.Wide column) = room column
number_room (numbers.Packed column) = 0

abbrev pub IsWide : Numbers → Type 0
IsWide (numbers.Wide column) = ⊤
IsWide (numbers.Packed column) = ⊥
