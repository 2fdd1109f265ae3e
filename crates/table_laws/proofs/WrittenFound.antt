-- What the sniffer finds of a written table: its dialect, names and types, and where its rows begin.
use Rattle.std.proofs.Common.{◌≡◌, ℕ, ◌≤◌, Bool, true, cond, ◌&&◌, not, List, [], ◌∷◌, map, length, replicate, refl, sym, ◌∙◌, ap, subst, arith, Some, None, max}
use Rattle.std.specs.Prelude.{filter, flat_map, slice_index_or}
use Rattle.std.specs.List.{range_with_len}
use Rattle.byte_classes.specs.Dialect.{Marks}
use Rattle.value_types.specs.declared.types.ColumnType.{ColumnType}
use Rattle.value_types.specs.declared.types.ColumnType.TheVariants.{Varchar}
use Rattle.load_options.specs.declared.options.Options.{Options}
use Rattle.csv_source.specs.Lists.{is_empty}
use Rattle.dialect_rank.specs.declared.scores.Score.{Score}
use Rattle.dialect_rank.specs.Candidates.{candidates_of, delims, quotings, with_delim, is_dialect, first_ones, no_quote}
use Rattle.dialect_rank.specs.Rank.{best_place}
use Rattle.dialect_rank.specs.Sampled.{Span, span_bytes, sampled_spans}
use Rattle.dialect_rank.specs.Score.{score_of, score_rows}
use Rattle.dialect_rank.proofs.RankLaws.{best_is_first_highest}
use Rattle.csv_sniffer.specs.declared.found.Sniffed.{Sniffed}
use Rattle.csv_sniffer.specs.ColumnNames.{wanted_name, made_different, final_names}
use Rattle.csv_sniffer.specs.ColumnTypes.{types_over, detected_types, final_types}
use Rattle.csv_sniffer.specs.Header.{looks_like_header}
use Rattle.csv_sniffer.specs.Sniffed.{chosen_dialect, column_count, has_whole_row, header_choice, has_header, first_if, behind_first_if, behind_row, sniffed_under, sniffed}
use Rattle.table_laws.specs.Laws.{csv_marks, ReadsWritten}
use Rattle.table_laws.proofs.WrittenSample.{FirstRow}
use Rattle.csv_sniffer.proofs.NamedTypes.{none_given}

-- ---- the dialect

candidates_are : (o : Options) (tys : List ColumnType) → ReadsWritten o tys → candidates_of o ≡ csv_marks ∷ []
candidates_are o tys r = λ i. first_ones [] (filter is_dialect (flat_map (λ delim. map (with_delim (r.comment i) delim) (quotings (r.quote i) (r.escape i))) (delims (r.delim i))))

best_of_one : (score : Score) → best_place (score ∷ []) ≡ 0
best_of_one score = omega (arith, (best_is_first_highest (score ∷ []) (omega arith)).within)

pub dialect_is : (o : Options) (tys : List ColumnType) (sample : List ℕ) (whole : Bool) → ReadsWritten o tys → chosen_dialect o sample whole ≡ csv_marks
dialect_is o tys sample whole r =
    let score : Marks → Score = λ d. score_of d sample whole o.sample_size in
    let other : Marks = with_delim None 44 no_quote in
    ap (λ ds. slice_index_or ds (best_place (map score ds)) other) (candidates_are o tys r)
    ∙ ap (λ k. slice_index_or (csv_marks ∷ []) k other) (best_of_one (score csv_marks))

-- ---- names, types and the place of the rows

given_count : (tys : List ColumnType) (most : ℕ) → 1 ≤ length tys → cond (not (is_empty tys)) (length tys) most ≡ length tys
given_count [] most some = absurd (let no : ⊥ = omega (arith, some) in no)
given_count (ty ∷ tys) most some = refl

pub given_types : (tys detected : List ColumnType) → 1 ≤ length tys → cond (is_empty tys) detected tys ≡ tys
given_types [] detected some = absurd (let no : ⊥ = omega (arith, some) in no)
given_types (ty ∷ tys) detected some = refl

-- what is found of a sample whose first row is the header
pub record IsHeaded (s : Sniffed) (d : Marks) (ns : List (List ℕ)) (tys : List ColumnType) (start : ℕ) : Type 0 where
  pub dialect : s.dialect ≡ d
  pub names : s.names ≡ ns
  pub types : s.types ≡ tys
  pub data_start : s.data_start ≡ start

module _ (o : Options) (tys : List ColumnType) (r : ReadsWritten o tys) (some : 1 ≤ length tys) (d : Marks) (sample : List ℕ) (whole : Bool) (spans : List Span) (n : ℕ) (first : FirstRow sample whole spans (0, n)) where
  columns_are : (mode : ℕ) → column_count o mode ≡ length tys
  columns_are mode =
      (λ i. cond (not (is_empty (r.names i))) (length (r.names i)) (cond (not (is_empty (r.types i))) (length (r.types i)) (max mode 1)))
      ∙ given_count tys (max mode 1) some

  rows_are : map (span_bytes sample) spans ≡ span_bytes sample (0, n) ∷ map (span_bytes sample) first.more
  rows_are = ap (map (span_bytes sample)) first.is

  headed : (columns : ℕ) → (has_whole_row sample whole spans && has_header o d columns (map (span_bytes sample) spans)) ≡ true
  headed columns =
      (λ i. first.whole_row i && has_header o d columns (rows_are i))
      ∙ ap (λ h. header_choice h (looks_like_header o d columns (types_over o d columns (map (span_bytes sample) first.more)) (span_bytes sample (0, n)))) r.header

  names_are : (columns : ℕ) (header : Bool) → columns ≡ length tys → header ≡ true →
      final_names o.names d columns (first_if header (map (span_bytes sample) spans)) ≡ made_different [] (map (wanted_name d (Some (span_bytes sample (0, n)))) (range_with_len 0 (length tys)))
  names_are columns header count is =
      (λ i. cond (is_empty (r.names i)) (made_different [] (map (wanted_name d (first_if (is i) (rows_are i))) (range_with_len 0 (count i)))) (r.names i))

  types_are : (columns : ℕ) (rows : List (List ℕ)) → final_types o d columns rows ≡ tys
  types_are columns rows =
      (λ i. cond (r.typed i) (replicate columns Varchar) (cond (is_empty (r.types i)) (detected_types o d columns rows) (r.types i)))
      ∙ given_types tys (detected_types o d columns rows) some

  start_is : (header : Bool) → header ≡ true → behind_row sample (first_if header spans) ≡ behind_row sample (Some (0, n))
  start_is header is = λ i. behind_row sample (first_if (is i) (first.is i))

  pub under_headed : IsHeaded (sniffed_under o sample whole d spans) d (made_different [] (map (wanted_name d (Some (span_bytes sample (0, n)))) (range_with_len 0 (length tys)))) tys (behind_row sample (Some (0, n)))
  under_headed =
      let rows : List (List ℕ) = map (span_bytes sample) spans in
      let columns : ℕ = column_count o (score_rows d rows).mode in
      let header : Bool = has_whole_row sample whole spans && has_header o d columns rows in
      record {
        dialect = refl;
        names = names_are columns header (columns_are (score_rows d rows).mode) (headed columns);
        types =
            none_given o.column_types (final_names o.names d columns (first_if header rows)) (final_types o d columns (behind_first_if header rows)) r.column_types
            ∙ types_are columns (behind_first_if header rows);
        data_start = start_is header (headed columns);
      }

pub sniffed_headed : (o : Options) (tys : List ColumnType) → ReadsWritten o tys → 1 ≤ length tys → (sample : List ℕ) (whole : Bool) (n : ℕ) →
    FirstRow sample whole (sampled_spans csv_marks sample whole o.sample_size) (0, n) →
    IsHeaded (sniffed o sample whole) csv_marks (made_different [] (map (wanted_name csv_marks (Some (span_bytes sample (0, n)))) (range_with_len 0 (length tys)))) tys (behind_row sample (Some (0, n)))
sniffed_headed o tys r some sample whole n first =
    let ns : List (List ℕ) = made_different [] (map (wanted_name csv_marks (Some (span_bytes sample (0, n)))) (range_with_len 0 (length tys))) in
    subst (λ d. IsHeaded (sniffed_under o sample whole d (sampled_spans d sample whole o.sample_size)) csv_marks ns tys (behind_row sample (Some (0, n)))) (sym (dialect_is o tys sample whole r))
    (under_headed o tys r some csv_marks sample whole (sampled_spans csv_marks sample whole o.sample_size) n first)
