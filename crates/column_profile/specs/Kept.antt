-- What a column of a profile keeps.
use Rattle.std.specs.Prelude.{map, IfSome}
use Rattle.std.specs.Option.{option_map}
use Rattle.value_types.specs.declared.types.Value.{Value}
use Rattle.value_types.specs.declared.types.Value.TheVariants as values
use Rattle.value_types.specs.Spelled.{IsSpelled}
use Rattle.column_profile.specs.declared.different.Key.{Key}
use Rattle.column_profile.specs.declared.different.Key.TheVariants as keys
use Rattle.column_profile.specs.declared.different.Different.{Different}
use Rattle.column_profile.specs.declared.column.Column.{Column}
use Rattle.column_profile.specs.Tally.{Apart, Tally}

-- the value that a key stands for
abbrev pub value_of : Key → Value
value_of (keys.Truth b) = values.Bool b
value_of (keys.Number n) = values.Int n
value_of (keys.Day day) = values.Date day
value_of (keys.Time micros) = values.Time micros
value_of (keys.Stamp stamp) = values.Stamp stamp

abbrev pub kept_apart : Different → Apart
kept_apart different = record { values = map value_of different.values.keys; texts = map (λ text. text.items) different.texts.keys }

abbrev pub tally_in : Column → Tally
tally_in column = record { nulls = column.nulls; apart = option_map kept_apart column.different; span = column.span; lengths = column.lengths }

-- the least and the greatest value are ones that can be printed
abbrev pub HasSpelledSpan : Tally → Type 0
HasSpelledSpan tally = IfSome tally.span (λ span. IsSpelled span.least × IsSpelled span.greatest)
