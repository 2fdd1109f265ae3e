-- What is found behind the head of an input, with what was found in the input given.
use Rattle.std.proofs.Common.{◌≡◌, ℕ, ◌≤◌, Bool, false, cond, ◌&&◌, not, List, [], ◌∷◌, map, length, max, refl, sym, ◌∙◌, ap, arith, Some}
use Rattle.std.proofs.Math.Bool.{and-false}
use Rattle.byte_classes.specs.Dialect.{Marks}
use Rattle.value_types.specs.declared.types.ColumnType.{ColumnType}
use Rattle.csv_source.specs.Lists.{is_empty}
use Rattle.load_options.specs.declared.options.Options.{Options}
use Rattle.load_options.specs.Accepted.{IsAccepted}
use Rattle.dialect_rank.specs.Sampled.{Span, span_bytes, sampled_spans}
use Rattle.dialect_rank.specs.Score.{score_rows}
use Rattle.csv_sniffer.specs.ColumnNames.{final_names}
use Rattle.csv_sniffer.specs.ColumnTypes.{detected_types, final_types}
use Rattle.csv_sniffer.specs.declared.found.Sniffed.{Sniffed}
use Rattle.csv_sniffer.specs.Sniffed.{chosen_dialect, column_count, has_whole_row, has_header, first_if, behind_first_if, behind_row, sniffed}
use Rattle.csv_sniffer.proofs.FixedDialect.{chosen_again}
use Rattle.csv_sniffer.proofs.FixedLaws.{and_again, length-sniffed_types}
use Rattle.csv_sniffer.proofs.NamedTypes.{none_given}
use Rattle.csv_sniffer.proofs.SniffedLaws.{names_match_types}
use Rattle.table_laws.specs.PartLaws.{alone}
use Rattle.table_laws.proofs.WrittenFound.{given_types}

-- as many columns as types, where these are given
columns_given : (names : List (List ℕ)) (tys found : List ColumnType) (most other : ℕ) → length found ≡ cond (not (is_empty names)) (length names) (cond (not (is_empty tys)) (length tys) most) → 1 ≤ length found →
    cond (not (is_empty names)) (length names) (cond (not (is_empty found)) (length found) other) ≡ length found
columns_given (name ∷ names) tys found most other is some = sym is
columns_given [] tys [] most other is some = absurd (let no : ⊥ = omega (arith, some) in no)
columns_given [] tys (ty ∷ found) most other is some = refl

-- a header that is given is taken from a sample that has a row
header_given : (o : Options) (s : Sniffed) (d : Marks) (columns : ℕ) (sample : List ℕ) (whole : Bool) (spans : List Span) →
    (has_whole_row sample whole spans && has_header (alone o s) d columns (map (span_bytes sample) spans)) ≡ (has_whole_row sample whole spans && s.header)
header_given o s d columns sample whole [] = refl
header_given o s d columns sample whole (span ∷ spans) = refl

-- what is found has this dialect, these names and types, and data that begin there in its sample
pub record IsFoundAlone (t s : Sniffed) : Type 0 where
  pub dialect : t.dialect ≡ s.dialect
  pub names : t.names ≡ s.names
  pub types : t.types ≡ s.types
  pub start : t.data_start ≡ s.data_start

module _ (o : Options) (sample : List ℕ) (whole : Bool) where
  abbrev s : Sniffed
  s = sniffed o sample whole

  abbrev spans_in : List ℕ → Bool → List Span
  spans_in other all = sampled_spans s.dialect other all o.sample_size

  abbrev own_columns : ℕ
  own_columns = column_count o (score_rows s.dialect (map (span_bytes sample) (spans_in sample whole))).mode

  -- another sample has the same header, behind which its data begin at the same place
  pub record TakesHeader (other : List ℕ) (all : Bool) : Type 0 where
    pub has : (has_whole_row other all (spans_in other all) && s.header) ≡ s.header
    pub row : first_if s.header (map (span_bytes other) (spans_in other all)) ≡ first_if s.header (map (span_bytes sample) (spans_in sample whole))
    pub start : behind_row other (first_if s.header (spans_in other all)) ≡ s.data_start

  -- so has the sample itself, and each one where there is no header
  pub takes_own : TakesHeader sample whole
  takes_own = record {
    has = and_again (has_whole_row sample whole (spans_in sample whole)) (has_header o s.dialect own_columns (map (span_bytes sample) (spans_in sample whole)));
    row = refl;
    start = refl;
  }

  pub takes_none : (other : List ℕ) (all : Bool) → s.header ≡ false → TakesHeader other all
  takes_none other all none = record {
    has = ap (λ h. has_whole_row other all (spans_in other all) && h) none ∙ and-false (has_whole_row other all (spans_in other all)) ∙ sym none;
    row = ap (λ h. first_if h (map (span_bytes other) (spans_in other all))) none ∙ sym (ap (λ h. first_if h (map (span_bytes sample) (spans_in sample whole))) none);
    start = ap (λ h. behind_row other (first_if h (spans_in other all))) none ∙ sym (ap (λ h. behind_row sample (first_if h (spans_in sample whole))) none);
  }

  module _ (accepted : IsAccepted o) where
    many : length s.types ≡ own_columns
    many = length-sniffed_types o sample whole accepted

    some : 1 ≤ length s.types
    some = omega (arith, (names_match_types o sample whole accepted).0, (names_match_types o sample whole accepted).1)

    pub found_alone : (other : List ℕ) (all : Bool) → TakesHeader other all → IsFoundAlone (sniffed (alone o s) other all) s
    found_alone other all takes =
        let d : Marks = chosen_dialect (alone o s) other all in
        let chosen : d ≡ s.dialect = chosen_again o sample whole accepted (Some s.header) s.types other all in
        let spans : Marks → List Span = λ e. sampled_spans e other all o.sample_size in
        let rows : List (List ℕ) = map (span_bytes other) (spans d) in
        let mode : ℕ = (score_rows d rows).mode in
        let columns : ℕ = column_count (alone o s) mode in
        let header : (has_whole_row other all (spans d) && has_header (alone o s) d columns rows) ≡ s.header =
        header_given o s d columns other all (spans d) ∙ ap (λ e. has_whole_row other all (spans e) && s.header) chosen ∙ takes.has in
        let count : columns ≡ own_columns = columns_given o.names o.types s.types _ (max mode 1) many some ∙ many in
        record {
          dialect = chosen;
          names =
              (λ i. final_names o.names d columns (first_if (header i) rows))
              ∙ (λ i. final_names o.names (chosen i) (count i) (first_if s.header (map (span_bytes other) (spans (chosen i)))))
              ∙ ap (final_names o.names s.dialect own_columns) takes.row;
          types =
              none_given (record { names = []; types = [] }) (sniffed (alone o s) other all).names (final_types (alone o s) d columns (behind_first_if (sniffed (alone o s) other all).header rows)) refl
              ∙ given_types s.types (detected_types (alone o s) d columns (behind_first_if (sniffed (alone o s) other all).header rows)) some;
          start = ap (λ h. behind_row other (first_if h (spans d))) header ∙ ap (λ e. behind_row other (first_if s.header (spans e))) chosen ∙ takes.start;
        }
