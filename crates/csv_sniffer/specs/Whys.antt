-- Why a column's type isn't an earlier one (this loader's profile).
use Rattle.std.specs.Prelude.{not, nat_lt, if◌then◌else◌, List, [], flat_map, take, find, Option, None}
use Rattle.std.specs.List.{cons_option, list_any}
use Rattle.std.specs.Option.{option_map}
use Rattle.value_types.specs.declared.types.ColumnType.{ColumnType}
use Rattle.value_types.specs.OfType.{is_of_type, type_number}
use Rattle.value_types.specs.TypeName.{detection_order}
use Rattle.csv_sniffer.specs.declared.explaining.entries.ColumnSample.{ColumnSample}
use Rattle.csv_sniffer.specs.declared.explaining.entries.Entry.{Entry}
use Rattle.csv_sniffer.specs.declared.explaining.whys.Why.{Why}
use Rattle.csv_sniffer.specs.declared.explaining.whys.TheConstants.{VALUE_LIMIT}

-- the first value that can't be cast to a type, where some value can
abbrev pub misfit : ColumnType → List Entry → Option Entry
misfit ty entries = if list_any (λ (e : Entry). is_of_type e.value ty) entries then find (λ (e : Entry). not (is_of_type e.value ty)) entries else None

-- the reason why a column isn't of a type: the line and the first bytes of that value
abbrev pub why_not : ColumnSample → ColumnType → Option Why
why_not c ty = option_map (λ (e : Entry). record { column = c.number; ty = ty; line = e.line; value = take VALUE_LIMIT e.value }) (misfit ty c.entries)

-- the same where detection tries the type before the one that was found
abbrev pub why_before : ColumnSample → ColumnType → List Why
why_before c ty = if nat_lt (type_number ty) (type_number c.ty) then cons_option (why_not c ty) [] else []

-- why a column is of no type before its own, where that was found
abbrev pub whys_of : ColumnSample → List Why
whys_of c = if c.found then flat_map (why_before c) detection_order else []
