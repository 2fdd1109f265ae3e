-- Quotes and delimiters that a sample doesn't have.
use Rattle.std.specs.Prelude.{ℕ, ◌==◌, not, Bool, true, List, Option, Some, None}
use Rattle.std.specs.List.{list_any}
use Rattle.std.specs.Str.{byte}
use Rattle.dialect_rank.specs.declared.delim_search.AbsentDelims.{AbsentDelims}
use Rattle.dialect_rank.specs.declared.quote_search.AbsentQuotes.{AbsentQuotes}

-- whether none of the bytes is this one
abbrev pub is_absent : ℕ → List ℕ → Bool
is_absent wanted sample = not (list_any (λ b. b == wanted) sample)

-- whether an optional byte isn't there, or is none of the bytes
abbrev pub lacks : List ℕ → Option ℕ → Bool
lacks sample None = true
lacks sample (Some b) = is_absent b sample

-- which of the quotes that detection tries a sample doesn't have
abbrev pub absent_in : List ℕ → AbsentQuotes
absent_in sample = record { double = is_absent (byte "\"") sample; single = is_absent (byte "'") sample }

-- which of the delimiters that detection tries a sample doesn't have
abbrev pub absent_delims_in : List ℕ → AbsentDelims
absent_delims_in sample = record {
  comma = is_absent (byte ",") sample;
  bar = is_absent (byte "|") sample;
  semicolon = is_absent (byte ";") sample;
  tab = is_absent 9 sample;
}
