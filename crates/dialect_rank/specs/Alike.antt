-- Dialects that read a text alike: what tells them apart isn't in it (this loader's profile).
use Rattle.std.specs.Prelude.{ℕ, ◌==◌, ◌&&◌, ◌||◌, Bool, List}
use Rattle.byte_classes.specs.Dialect.{Marks}
use Rattle.dialect_rank.specs.Absent.{is_absent, lacks}
use Rattle.dialect_rank.specs.Candidates.{same_byte}

-- whether two dialects separate fields by the same delimiter, or by two of which the text has none
abbrev pub separates_alike : List ℕ → Marks → Marks → Bool
separates_alike text d e = (d.delim == e.delim) || (is_absent d.delim text && is_absent e.delim text)

-- whether they quote and escape alike, or by two quotes of which the text has none: an escape means something between quotes alone
abbrev pub quotes_alike : List ℕ → Marks → Marks → Bool
quotes_alike text d e = (same_byte d.quote e.quote && same_byte d.escape e.escape) || (lacks text d.quote && lacks text e.quote)

-- whether they read a text alike
abbrev pub reads_alike : List ℕ → Marks → Marks → Bool
reads_alike text d e = same_byte d.comment e.comment && separates_alike text d e && quotes_alike text d e
