use Rattle.std.proofs.Common.{◌≡◌, length, take}
use Rattle.std.specs.Prelude.{All}
use Rattle.column_store.specs.Stacked.{rows_in}
use Rattle.column_profile.specs.Parts.{rows_of, IsPart}
use Rattle.column_profile.proofs.parts.parts_of.Given as goal

-- the chunks so far are there
abbrev pub invariant-loop-chunk : goal.invariant-loop-chunk
invariant-loop-chunk l = record {
  parts : All (IsPart (length l.table.types)) l.parts.items;
  rows : rows_of l.parts.items ≡ rows_in (take l.chunk-index l.earlier);
}
