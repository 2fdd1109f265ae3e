-- With what was found in one input given, each input is found alike.
use Rattle.std.proofs.Common.{◌≡◌, ℕ, ◌+◌, Bool, ◌&&◌, List, [], ◌∷◌, map, drop, Some, refl, ap, ◌∙◌}
use Rattle.byte_classes.specs.Dialect.{Marks}
use Rattle.load_options.specs.declared.options.Options.{Options}
use Rattle.dialect_rank.specs.Sampled.{Span, span_bytes, sampled_spans}
use Rattle.dialect_rank.specs.Score.{score_rows}
use Rattle.csv_sniffer.specs.Fixed.{fixed, fixed_types}
use Rattle.csv_sniffer.specs.Input.{found}
use Rattle.csv_sniffer.specs.Laws.{FixedIsFoundInAll}
use Rattle.csv_sniffer.specs.Sample.{start_of_sample, sample_of, is_whole}
use Rattle.csv_sniffer.specs.Sniffed.{chosen_dialect, column_count, has_whole_row, has_header, first_if, behind_first_if, behind_row}
use Rattle.csv_sniffer.specs.declared.found.Sniffed.{Sniffed}
use Rattle.csv_sniffer.proofs.FixedDialect.{chosen_again}
use Rattle.csv_sniffer.proofs.FixedLaws.{types_given}
use Rattle.csv_sniffer.proofs.SniffedLaws.{names_match_types}

-- a header that was found is one in each sample that has a row
header_taken : (o : Options) (s : Sniffed) (d : Marks) (columns : ℕ) (sample : List ℕ) (whole : Bool) (spans : List Span) →
    (has_whole_row sample whole spans && has_header (fixed o s) d columns (map (span_bytes sample) spans)) ≡ (has_whole_row sample whole spans && s.header)
header_taken o s d columns sample whole [] = refl
header_taken o s d columns sample whole (span ∷ spans) = refl

pub fixed_is_found_in_all : FixedIsFoundInAll
fixed_is_found_in_all o first input accepted =
    let own = drop (start_of_sample o.skip first) first in
    let start = start_of_sample o.skip input in
    let behind = drop start input in
    let sample : List ℕ = sample_of behind in
    let whole : Bool = is_whole behind in
    let s : Sniffed = found o first in
    let again : Options = fixed o s in
    let spans : Marks → List Span = λ d. sampled_spans d sample whole o.sample_size in
    let count : Marks → ℕ = λ d. column_count again (score_rows d (map (span_bytes sample) (spans d))).mode in
    let d : Marks = chosen_dialect again sample whole in
    let chosen : d ≡ s.dialect = chosen_again o (sample_of own) (is_whole own) accepted (Some s.header) (fixed_types o s) sample whole in record {
      dialect = chosen;
      types = λ fixes. types_given o s d (count d) (found again input).names (behind_first_if (found again input).header (map (span_bytes sample) (spans d))) fixes
          (names_match_types o (sample_of own) (is_whole own) accepted).1;
      place = ap (λ header. start + behind_row sample (first_if header (spans d))) (header_taken o s d (count d) sample whole (spans d))
          ∙ ap (λ e. start + behind_row sample (first_if (has_whole_row sample whole (spans e) && s.header) (spans e))) chosen;
    }
