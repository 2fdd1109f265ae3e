-- Bytes, however they are kept.
use Rattle.std.specs.Prelude.{ℕ, List}
use Rattle.std.specs.Arc.{arc_value}
use Rattle.csv_source.specs.declared.bytes.Kept.{Kept}
use Rattle.csv_source.specs.declared.bytes.Kept.TheVariants.{Alone, Shared}

abbrev pub kept_bytes : Kept → List ℕ
kept_bytes (Alone bytes) = bytes.items
kept_bytes (Shared bytes) = (arc_value bytes).items
