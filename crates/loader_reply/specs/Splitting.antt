-- Where a file can be cut, by what is found in it (this loader's profile).
use Rattle.std.specs.Prelude.{◌≡◌, ◌⊎◌, ℕ, ◌+◌, ◌≤◌, ◌||◌, nat_le, nat_lt, Bool, true, false, if◌then◌else◌, List, length, take, option_map, Option, Some, unwrap_or}
use Rattle.std.specs.Bool.{then_some}
use Rattle.std.specs.Option.{option_or}
use Rattle.load_options.specs.declared.limits.TheConstants.{COLUMN_LIMIT, SIZE}
use Rattle.load_options.specs.declared.options.Options.{Options}
use Rattle.csv_sniffer.specs.declared.found.Sniffed.{Sniffed}
use Rattle.csv_sniffer.specs.Input.{found, place_under}
use Rattle.csv_sniffer.specs.Sample.{sample_limit, start_of_sample}
use Rattle.part_cuts.specs.declared.cut_rule.CutRule.{CutRule}
use Rattle.part_cuts.specs.Reading.{Reading}
use Rattle.file_split.specs.declared.file_piece.FilePiece.{FilePiece}
use Rattle.file_split.specs.WholeFile.{cuts_of}
use Rattle.report_text.specs.declared.outcome.Mismatch.{Mismatch}
use Rattle.report_text.specs.declared.outcome.Mismatch.TheVariants.{TooManyColumns}
use Rattle.report_text.specs.declared.outcome.Outcome.{Outcome}
use Rattle.report_text.specs.declared.outcome.Outcome.TheVariants as outcomes
use Rattle.loader_reply.specs.declared.split_head.TheConstants.{HEAD_LIMIT}
use Rattle.loader_reply.specs.Fitting.{no_column}
use Rattle.loader_reply.specs.FurtherWords.{further_words}
use Rattle.loader_reply.specs.Loading.{GoesBehindSample}

-- ---- the definition

-- whether the sample of an input lies within the first bytes, as many as a head may have
abbrev pub lies_within : ℕ → List ℕ → Bool
lies_within skip input = nat_le (length input) HEAD_LIMIT || nat_le (start_of_sample skip (take (HEAD_LIMIT + 1) input) + sample_limit) HEAD_LIMIT

-- by what a file is cut under what was found in it
abbrev pub cut_rule : Options → Sniffed → CutRule
cut_rule o s = record { dialect = s.dialect; size = unwrap_or o.size SIZE.default; columns = length s.types }

-- a list of types can't have as many as there are columns
abbrev pub too_many_types : Sniffed → Option Mismatch
too_many_types s = then_some (nat_lt COLUMN_LIMIT (length s.types)) (TooManyColumns COLUMN_LIMIT)

-- what is told in place of parts: that the sample lies too far behind, or how the words don't fit what was found
abbrev pub unsplit : Options → Bool → Sniffed → Option Outcome
unsplit o lies s =
    if lies then option_map (λ m. outcomes.Mismatch m) (option_or (no_column o s) (too_many_types s)) else Some (outcomes.TooLarge HEAD_LIMIT)

-- the parts under what was found, unless something else is told
abbrev pub split_told : Options → List (List ℕ) → Bool → Sniffed → Reading → Outcome
split_told o words lies s cuts = unwrap_or (unsplit o lies s) (outcomes.Split s (further_words words) cuts)

-- what `split` tells of an input, by the words
abbrev pub split_outcome : Options → List (List ℕ) → List ℕ → Outcome
split_outcome o words input = let s = found o input in
    split_told o words (lies_within o.skip input) s (cuts_of (cut_rule o s) (place_under o s input) input)

-- ---- the head of a file, which is held until its sample is looked at

-- it holds the sample, or all of a file that isn't longer than a head may be; or it is longer, and the sample isn't there
abbrev pub IsSplitHead : ℕ → FilePiece → Bool → Type 0
IsSplitHead skip held true = (length held.bytes ≤ HEAD_LIMIT + 1) × (((held.ended ≡ true) × (length held.bytes ≤ HEAD_LIMIT)) ⊎ GoesBehindSample skip held.bytes)
IsSplitHead skip held false = (length held.bytes ≡ HEAD_LIMIT + 1) × (length held.bytes ≤ start_of_sample skip held.bytes + sample_limit)
