-- Which values are the same, and how they are ordered.
use Rattle.std.specs.Prelude.{◌&&◌, Bool, if◌then◌else◌, ℤ, pos, int_lt}
use Rattle.std.specs.Ordering.{int_eq}
use Rattle.value_types.specs.declared.types.Value.{Value}
use Rattle.value_types.specs.declared.types.Value.TheVariants as values
use Rattle.value_types.specs.OfType.{same_type, type_of_value}

-- the number by which a value stands among those of its type: false before true, days and microseconds by time
abbrev pub number_of : Value → ℤ
number_of (values.Bool b) = if b then pos 1 else pos 0
number_of (values.Int n) = n
number_of (values.Date day) = day
number_of (values.Time micros) = micros
number_of (values.Stamp stamp) = stamp

-- values of one type that have one number
abbrev pub same_value : Value → Value → Bool
same_value a b = same_type (type_of_value a) (type_of_value b) && int_eq (number_of a) (number_of b)

-- the value that stands first, or last; the one that came before where two have one number
abbrev pub lesser : Value → Value → Value
lesser least value = if int_lt (number_of value) (number_of least) then value else least

abbrev pub greater : Value → Value → Value
greater greatest value = if int_lt (number_of greatest) (number_of value) then value else greatest
