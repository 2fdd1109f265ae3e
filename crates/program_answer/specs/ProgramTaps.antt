-- What the program's taps look for, in the order in which they print (this loader's profile).
use Rattle.std.specs.Prelude.{List, [], ◌∷◌}
use Rattle.column_taps.specs.declared.kind.TapKind.TheVariants.{Count, Span, Width, Distinct}
use Rattle.column_taps.specs.Seen.{Seen, nothing_seen}

abbrev pub program_taps : List Seen
program_taps = nothing_seen Count ∷ nothing_seen Span ∷ nothing_seen Width ∷ nothing_seen (Distinct 1000) ∷ []
