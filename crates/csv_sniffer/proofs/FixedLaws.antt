-- With what was found given, the same is found.
use Rattle.std.proofs.Common.{◌≡◌, ℕ, ◌≤◌, Bool, cond, true, false, not, ◌&&◌, ◌==◌, List, [], ◌∷◌, length, map, max, Option, Some, None, replicate, take, refl, sym, ap, subst, ◌∙◌, arith, inl, inr}
use Rattle.std.specs.Str.{byte}
use Rattle.std.proofs.lemmas.Bool.{and_parts, cases_Bool, not-true}
use Rattle.byte_classes.specs.Dialect.{Marks, is_byte}
use Rattle.value_types.specs.declared.types.ColumnType.{ColumnType}
use Rattle.value_types.specs.declared.types.ColumnType.TheVariants as types
use Rattle.load_options.specs.declared.options.Options.{Options}
use Rattle.load_options.specs.Accepted.{IsAccepted}
use Rattle.csv_source.specs.Lists.{is_empty}
use Rattle.dialect_rank.specs.Candidates.{choice_of}
use Rattle.dialect_rank.specs.Sampled.{Span, span_bytes, sampled_spans}
use Rattle.dialect_rank.specs.Score.{score_rows}
use Rattle.csv_sniffer.specs.ColumnNames.{final_names}
use Rattle.csv_sniffer.specs.ColumnTypes.{final_types, detected_types}
use Rattle.csv_sniffer.specs.Fixed.{fixed, fixed_types, fixes_types}
use Rattle.csv_sniffer.specs.LineEnd.{newline_of}
use Rattle.csv_sniffer.specs.NamedTypes.{types_by_name}
use Rattle.csv_sniffer.specs.Noticed.{idle_quote, is_detected, noticed_again, with_zeros}
use Rattle.csv_sniffer.specs.ZeroColumns.{zero_columns}
use Rattle.csv_sniffer.specs.declared.zero_columns.TheConstants.{ZERO_ROWS}
use Rattle.csv_sniffer.specs.Sniffed.{column_count, has_whole_row, has_header, first_if, behind_first_if, behind_row, sniffed_under, sniffed}
use Rattle.csv_sniffer.specs.declared.found.Sniffed.{Sniffed}
use Rattle.csv_sniffer.proofs.FixedDialect.{chosen_again}
use Rattle.csv_sniffer.proofs.CountLaws.{some_column, length-final_types}
use Rattle.csv_sniffer.proofs.NamedTypes.{length-types_by_name, none_given}

-- ---- columns, header and types

pub and_again : (a b : Bool) → (a && (a && b)) ≡ (a && b)
and_again true b = refl
and_again false b = refl

is_some_type : (tys : List ColumnType) → 1 ≤ length tys → is_empty tys ≡ false
is_some_type [] h = absurd (let no : ⊥ = omega (arith, h) in no)
is_some_type (ty ∷ tys) h = refl

module _ (o : Options) (s : Sniffed) (d : Marks) where
  -- a header that is found again
  pub header_again : (columns other : ℕ) (has : Bool) (rows : List (List ℕ)) → s.header ≡ (has && has_header o d columns rows) → (has && has_header (fixed o s) d other rows) ≡ s.header
  header_again columns other has [] is = sym is
  header_again columns other has (row ∷ rows) is =
      let found : Bool = has_header o d columns (row ∷ rows) in
      ap (λ h. has && h) is ∙ and_again has found ∙ sym is

-- as many columns as there were
count_by_names : (names : List (List ℕ)) (tys found : List ColumnType) (mode : ℕ) →
    let count : List ColumnType → ℕ = λ ts. cond (not (is_empty names)) (length names) (cond (not (is_empty ts)) (length ts) (max mode 1)) in
    length found ≡ count tys → 1 ≤ length found → count found ≡ count tys
count_by_names (n ∷ names) tys found mode is some = refl
count_by_names [] tys found mode is some = ap (λ t. cond (not t) (length found) (max mode 1)) (is_some_type found some) ∙ is

-- types that can be given
pub types_given : (o : Options) (s : Sniffed) (d : Marks) (columns : ℕ) (names rows : List (List ℕ)) → fixes_types o s ≡ true → 1 ≤ length s.types →
    types_by_name o.column_types names (final_types (fixed o s) d columns rows) ≡ s.types
types_given o s d columns names rows fixes some =
    let found : List ColumnType = detected_types o d columns rows in
    let all : List ColumnType → List ColumnType = λ ts. cond o.all_varchar (replicate columns types.Varchar) (cond (is_empty ts) found ts) in
    let free = and_parts _ _ (and_parts _ _ fixes).0 in
    let listed : final_types (fixed o s) d columns rows ≡ s.types =
    ap (λ t. all (cond t s.types o.types)) fixes
    ∙ ap (λ v. cond v (replicate columns types.Varchar) (cond (is_empty s.types) found s.types)) (not-true o.all_varchar free.0)
    ∙ ap (λ t. cond t found s.types) (is_some_type s.types some) in
    ap (types_by_name o.column_types names) listed ∙ none_given o.column_types names s.types free.1

module _ (o : Options) (s : Sniffed) (d : Marks) (mode : ℕ) (is_many : length s.types ≡ column_count o mode) where
  some : 1 ≤ length s.types
  some = subst (λ n. 1 ≤ n) (sym is_many) (some_column o mode)

  pub count_again : column_count (fixed o s) mode ≡ column_count o mode
  count_again = elim (cases_Bool (fixes_types o s)) [
    | inl fixes ↦
        ap (λ t. cond (not (is_empty o.names)) (length o.names) (cond (not (is_empty (cond t s.types o.types))) (length (cond t s.types o.types)) (max mode 1))) fixes
        ∙ count_by_names o.names o.types s.types mode is_many some
    | inr free ↦
        ap (λ t. cond (not (is_empty o.names)) (length o.names) (cond (not (is_empty (cond t s.types o.types))) (length (cond t s.types o.types)) (max mode 1))) free
  ]

  pub types_again : (names rows : List (List ℕ)) → s.types ≡ types_by_name o.column_types names (final_types o d (column_count o mode) rows) →
      types_by_name o.column_types names (final_types (fixed o s) d (column_count o mode) rows) ≡ s.types
  types_again names rows is = elim (cases_Bool (fixes_types o s)) [
    | inl fixes ↦ types_given o s d (column_count o mode) names rows fixes some
    | inr free ↦
        let found : List ColumnType = detected_types o d (column_count o mode) rows in
        ap (λ t. types_by_name o.column_types names (cond o.all_varchar (replicate (column_count o mode) types.Varchar) (cond (is_empty (cond t s.types o.types)) found (cond t s.types o.types)))) free
        ∙ sym is
  ]

-- a quote that is given isn't hinted at
none_idle : (quote : Option ℕ) (closed : ℕ) → cond (is_detected (choice_of quote) && not (is_byte quote (byte "\"")) && (closed == 0)) quote None ≡ None
none_idle None closed = refl
none_idle (Some quote) closed = refl

-- ---- all that is found

module _ (o : Options) (sample : List ℕ) (whole : Bool) (accepted : IsAccepted o) where
  abbrev s : Sniffed
  s = sniffed o sample whole

  abbrev d : Marks
  d = s.dialect

  abbrev spans : List Span
  spans = sampled_spans d sample whole o.sample_size

  abbrev rows : List (List ℕ)
  rows = map (span_bytes sample) spans

  abbrev mode : ℕ
  mode = (score_rows d rows).mode

  abbrev again : Options
  again = fixed o s

  pub length-sniffed_types : length s.types ≡ column_count o mode
  length-sniffed_types =
      length-types_by_name o.column_types s.names (final_types o d (column_count o mode) (behind_first_if s.header rows))
      ∙ length-final_types o mode d (behind_first_if s.header rows) accepted.counts_differ

  count_is : column_count again mode ≡ column_count o mode
  count_is = count_again o s d mode length-sniffed_types

  header_is : (has_whole_row sample whole spans && has_header again d (column_count again mode) rows) ≡ s.header
  header_is = header_again o s d (column_count o mode) (column_count again mode) (has_whole_row sample whole spans) rows refl

  types_are : types_by_name o.column_types s.names (final_types again d (column_count o mode) (behind_first_if s.header rows)) ≡ s.types
  types_are = types_again o s d mode length-sniffed_types s.names (behind_first_if s.header rows) refl

  under_again : sniffed_under again sample whole d spans ≡ record s { noticed = noticed_again s.noticed }
  under_again =
      let typed =
      (λ i. types_by_name o.column_types (final_names o.names d (count_is i) (first_if (header_is i) rows)) (final_types again d (count_is i) (behind_first_if (header_is i) rows)))
      ∙ types_are in
      let idle_again : idle_quote again d (score_rows d rows) ≡ None = none_idle d.quote (score_rows d rows).closed in λ i. record {
        dialect = d;
        newline = newline_of sample spans;
        skip = o.skip;
        header = header_is i;
        names = final_names o.names d (count_is i) (first_if (header_is i) rows);
        types = typed i;
        data_start = behind_row sample (first_if (header_is i) spans);
        noticed = with_zeros (record s.noticed { other_delim = None; idle_quote = idle_again i }) (zero_columns o d (typed i) (behind_first_if (header_is i) (take ZERO_ROWS rows)));
      }

  pub sniffed_again : sniffed again sample whole ≡ record s { noticed = noticed_again s.noticed }
  sniffed_again =
      ap (λ e. sniffed_under again sample whole e (sampled_spans e sample whole o.sample_size)) (chosen_again o sample whole accepted (Some s.header) (fixed_types o s) sample whole) ∙ under_again
