-- What is noticed beside what is found (this loader's profile).
use Rattle.std.specs.Prelude.{ℕ, ◌==◌, ◌&&◌, not, nat_le, nat_lt, Bool, true, false, if◌then◌else◌, List, [], ◌∷◌, length, map, count_by, take, Option, None}
use Rattle.std.specs.List.{find, list_any}
use Rattle.std.specs.Option.{is_none, option_map_or}
use Rattle.std.specs.Str.{byte}
use Rattle.byte_classes.specs.Dialect.{Marks, is_byte}
use Rattle.byte_classes.specs.Fault.{has_byte}
use Rattle.byte_classes.specs.LineEnds.{line_ends}
use Rattle.load_options.specs.declared.options.Choice.{Choice}
use Rattle.load_options.specs.declared.options.Choice.TheVariants.{Detect, Nothing, Byte}
use Rattle.load_options.specs.declared.options.Options.{Options}
use Rattle.dialect_rank.specs.Sampled.{Span, span_bytes}
use Rattle.dialect_rank.specs.Score.{field_count, score_rows}
use Rattle.dialect_rank.specs.DelimHint.{other_delim}
use Rattle.dialect_rank.specs.Scored.{scored_candidates}
use Rattle.dialect_rank.specs.declared.scores.Score.{Score}
use Rattle.csv_sniffer.specs.declared.found.Noticed.{Noticed}

-- ---- another delimiter

-- the delimiter that would cut the rows of the best dialect into several fields
abbrev pub other_delim_in : Options → List ℕ → Bool → Marks → List Span → Option ℕ
other_delim_in o sample whole d spans = other_delim o d.delim (score_rows d (map (span_bytes sample) spans)) (scored_candidates o sample whole)

-- ---- comment lines

-- whether some bytes begin with a byte
abbrev pub begins_with : ℕ → List ℕ → Bool
begins_with wanted [] = false
begins_with wanted (b ∷ bytes) = b == wanted

-- how many rows begin with `#`
abbrev pub hash_count : List (List ℕ) → ℕ
hash_count rows = count_by (begins_with (byte "#")) rows

-- whether a row begins with `#` and has one field
abbrev pub is_hash_alone : Marks → List ℕ → Bool
is_hash_alone d row = begins_with (byte "#") row && (field_count d row == 1)

-- whether the rows that begin with `#` look like comment lines: where most rows have several fields one of them has one, and else there are
-- two or more, and other rows
abbrev pub are_like_comments : Marks → ℕ → List (List ℕ) → Bool
are_like_comments d mode rows =
    if nat_le 2 mode then list_any (is_hash_alone d) rows else nat_le 2 (hash_count rows) && nat_lt (hash_count rows) (length rows)

-- how many rows look like comment lines, where no comment byte is given and `#` is no byte of the dialect
abbrev pub comment_lines : Options → Marks → List (List ℕ) → ℕ
comment_lines o d rows =
    if is_none o.comment && not (has_byte d (byte "#")) && are_like_comments d (score_rows d rows).mode rows then hash_count rows else 0

-- ---- a quote by which no field is quoted

-- whether a part of the dialect is to be detected
abbrev pub is_detected : Choice → Bool
is_detected Detect = true
is_detected Nothing = false
is_detected (Byte b) = false

-- the quote that is found, where it isn't `"` and no field is quoted by it
abbrev pub idle_quote : Options → Marks → Score → Option ℕ
idle_quote o d score = if is_detected o.quote && not (is_byte d.quote (byte "\"")) && (score.closed == 0) then d.quote else None

-- ---- lines above the rows

-- whether a row has so many fields
abbrev pub has_fields : List ℕ → Marks → ℕ → Span → Bool
has_fields sample d count span = field_count d (span_bytes sample span) == count

-- the first row that has so many fields, where the first of all hasn't
abbrev pub later_row : List ℕ → Marks → ℕ → List Span → Option Span
later_row sample d count [] = None
later_row sample d count (first ∷ spans) = if has_fields sample d count first then None else find (has_fields sample d count) spans

-- how many physical lines end before a row
abbrev pub lines_before : List ℕ → Span → ℕ
lines_before sample span = line_ends None (take span.0 sample)

-- how many stand above the first row that has as many fields as most have, where the first of all hasn't
abbrev pub lines_above : List ℕ → Marks → ℕ → List Span → ℕ
lines_above sample d mode spans = option_map_or (lines_before sample) (later_row sample d mode spans) 0

-- ---- all of it

-- what is noticed under the dialect with its sampled rows, before there are types
abbrev pub noticed_in : Options → List ℕ → Bool → Marks → List Span → Noticed
noticed_in o sample whole d spans = let rows = map (span_bytes sample) spans in record {
  other_delim = other_delim_in o sample whole d spans;
  comment_lines = comment_lines o d rows;
  idle_quote = idle_quote o d (score_rows d rows);
  lines_above = lines_above sample d (score_rows d rows).mode spans;
  zero_columns = 0;
}

-- the same with columns of numbers that would lose leading zeros, once the types are known
abbrev pub with_zeros : Noticed → ℕ → Noticed
with_zeros n columns = record n { zero_columns = columns }

-- what is noticed with what was found given: the delimiter and the quote are given then
abbrev pub noticed_again : Noticed → Noticed
noticed_again n = record n { other_delim = None; idle_quote = None }
