-- The parts of a file, from what lies before each of them.
use Rattle.std.specs.Prelude.{◌+◌, ◌-◌, List, [], ◌∷◌}
use Rattle.part_cuts.specs.declared.part.Part.{Part}
use Rattle.part_cuts.specs.declared.tally.Tally.{Tally}

-- the part between two places
abbrev pub part_between : Tally → Tally → Part
part_between start end = record { byte = start.bytes; len = end.bytes - start.bytes; line = start.lines + 1; rows = end.rows - start.rows }

-- the parts that begin at these places, each up to where the next one begins, the last one to the end
abbrev pub parts : List Tally → Tally → List Part
parts [] end = []
parts (t ∷ []) end = part_between t end ∷ []
parts (t ∷ u ∷ starts) end = part_between t u ∷ parts (u ∷ starts) end
