-- Where the type of each column is given by its name, what is found is what is found under these types in a list.
use Rattle.std.proofs.Common.{◌≡◌, ℕ, ◌≤◌, Bool, true, false, ◌&&◌, not, cond, max, List, [], ◌∷◌, map, length, replicate, take, Some, refl, sym, ap, ◌∙◌, arith}
use Rattle.std.specs.Prelude.{option_and_then, slice_get, unwrap_or}
use Rattle.std.proofs.lemmas.List.{length-map}
use Rattle.byte_classes.specs.Dialect.{Marks}
use Rattle.value_types.specs.declared.types.ColumnType.{ColumnType}
use Rattle.value_types.specs.declared.types.ColumnType.TheVariants.{Varchar}
use Rattle.load_options.specs.declared.options.ColumnTypes.{ColumnTypes}
use Rattle.load_options.specs.declared.options.Options.{Options}
use Rattle.load_options.specs.Accepted.{IsAccepted}
use Rattle.csv_source.specs.Lists.{is_empty}
use Rattle.dialect_rank.specs.Sampled.{Span, span_bytes, sampled_spans}
use Rattle.dialect_rank.specs.Score.{score_rows}
use Rattle.csv_sniffer.specs.ColumnNames.{final_names}
use Rattle.csv_sniffer.specs.ColumnTypes.{detected_types, final_types}
use Rattle.csv_sniffer.specs.Laws.{listed}
use Rattle.csv_sniffer.specs.LineEnd.{newline_of}
use Rattle.csv_sniffer.specs.NamedTypes.{place_of, type_given, types_by_name}
use Rattle.csv_sniffer.specs.Noticed.{noticed_in, with_zeros}
use Rattle.csv_sniffer.specs.ZeroColumns.{zero_columns}
use Rattle.csv_sniffer.specs.declared.zero_columns.TheConstants.{ZERO_ROWS}
use Rattle.csv_sniffer.specs.Sniffed.{chosen_dialect, column_count, has_whole_row, has_header, first_if, behind_first_if, behind_row, sniffed}
use Rattle.csv_sniffer.proofs.CountLaws.{some_column, length-final_names, length-final_types}
use Rattle.csv_sniffer.proofs.NamedTypes.{none_given}

-- ---- each column's type is given

all_given : (given : ColumnTypes) (names : List (List ℕ)) (types found : List ColumnType) → map (type_given given) names ≡ map Some types → length found ≡ length names → types_by_name given names found ≡ types
all_given given [] [] [] e n = refl
all_given given [] [] (ty ∷ found) e n = absurd (let no : ⊥ = omega (arith, n) in no)
all_given given [] (ty ∷ types) found e n = absurd (let no : ⊥ = cc in no)
all_given given (name ∷ names) [] found e n = absurd (let no : ⊥ = cc in no)
all_given given (name ∷ names) (ty ∷ types) [] e n = absurd (let no : ⊥ = omega (arith, n) in no)
all_given given (name ∷ names) (ty ∷ types) (f ∷ found) e n =
    let first : type_given given name ≡ Some ty = cc in
    let others : map (type_given given) names ≡ map Some types = cc in
    let rest = all_given given names types found others (omega (arith, n)) in
    λ i. unwrap_or (first i) f ∷ rest i

-- so some name is given
placed : (ns : List (List ℕ)) (tys : List ColumnType) (name : List ℕ) (ty : ColumnType) → option_and_then (slice_get tys) (place_of ns name) ≡ Some ty → is_empty ns ≡ false
placed [] tys name ty h = absurd (let no : ⊥ = cc in no)
placed (n ∷ ns) tys name ty h = refl

some_given : (given : ColumnTypes) (names : List (List ℕ)) (types : List ColumnType) → 1 ≤ length names → map (type_given given) names ≡ map Some types → is_empty given.names ≡ false
some_given given [] types some e = absurd (let no : ⊥ = omega (arith, some) in no)
some_given given (name ∷ names) [] some e = absurd (let no : ⊥ = cc in no)
some_given given (name ∷ names) (ty ∷ types) some e =
    let first : type_given given name ≡ Some ty = cc in placed given.names given.types name ty first

not_varchar : (v a : Bool) → a ≡ false → (v && not a) ≡ false → v ≡ false
not_varchar v true e h = absurd (let no : ⊥ = cc in no)
not_varchar true false e h = absurd (let no : ⊥ = cc in no)
not_varchar false false e h = refl

-- ---- types in a list

count_listed : (names : List (List ℕ)) (types : List ColumnType) (most columns : ℕ) → 1 ≤ length types → length types ≡ columns → (is_empty names ≡ false → length names ≡ columns)
    → cond (not (is_empty names)) (length names) (cond (not (is_empty types)) (length types) most) ≡ columns
count_listed names [] most columns some many named = absurd (let no : ⊥ = omega (arith, some) in no)
count_listed [] (ty ∷ types) most columns some many named = many
count_listed (n ∷ names) (ty ∷ types) most columns some many named = named refl

given_names : (names : List (List ℕ)) (types : List ColumnType) (most : ℕ) → is_empty names ≡ false → length names ≡ cond (not (is_empty names)) (length names) (cond (not (is_empty types)) (length types) most)
given_names [] types most e = absurd (let no : ⊥ = cc in no)
given_names (n ∷ names) types most e = refl

typed_listed : (varchar : Bool) (types detected : List ColumnType) (columns : ℕ) → varchar ≡ false → 1 ≤ length types → cond varchar (replicate columns Varchar) (cond (is_empty types) detected types) ≡ types
typed_listed true types detected columns v some = absurd (let no : ⊥ = cc in no)
typed_listed false [] detected columns v some = absurd (let no : ⊥ = omega (arith, some) in no)
typed_listed false (ty ∷ types) detected columns v some = refl

module _ (o : Options) (sample : List ℕ) (whole : Bool) (types : List ColumnType) (accepted : IsAccepted o) where
  abbrev dialect : Marks
  dialect = chosen_dialect o sample whole

  abbrev spans : List Span
  spans = sampled_spans dialect sample whole o.sample_size

  abbrev rows : List (List ℕ)
  rows = map (span_bytes sample) spans

  abbrev mode : ℕ
  mode = (score_rows dialect rows).mode

  abbrev header : Options → Bool
  header p = has_whole_row sample whole spans && has_header p dialect (column_count p mode) rows

  abbrev names : List (List ℕ)
  names = final_names o.names dialect (column_count o mode) (first_if (header o) rows)

  abbrev found_types : List ColumnType
  found_types = final_types o dialect (column_count o mode) (behind_first_if (header o) rows)

  pub named_as_listed : map (type_given o.column_types) (sniffed o sample whole).names ≡ map Some types → (sniffed (listed o types) sample whole).header ≡ (sniffed o sample whole).header
      → sniffed (listed o types) sample whole ≡ sniffed o sample whole
  named_as_listed all same =
      let p : Options = listed o types in
      let counted : length names ≡ column_count o mode = length-final_names o mode dialect (first_if (header o) rows) in
      let as_many : length types ≡ length names = sym (length-map types Some) ∙ sym (ap length all) ∙ length-map names (type_given o.column_types) in
      let some_name : 1 ≤ length names = omega (arith, counted, some_column o mode) in
      let some_type : 1 ≤ length types = omega (arith, as_many, some_name) in
      let given : is_empty o.column_types.names ≡ false = some_given o.column_types names types some_name all in
      let plain : o.all_varchar ≡ false = not_varchar o.all_varchar (is_empty o.column_types.names) given accepted.varchar_and_column_types in
      let count : column_count p mode ≡ column_count o mode = count_listed o.names types (max mode 1) (column_count o mode) some_type (as_many ∙ counted) (given_names o.names o.types (max mode 1)) in
      let named : final_names o.names dialect (column_count p mode) (first_if (header p) rows) ≡ names = λ i. final_names o.names dialect (count i) (first_if (same i) rows) in
      let found = length-final_types o mode dialect (behind_first_if (header o) rows) accepted.counts_differ in
      let typed : types_by_name p.column_types (final_names o.names dialect (column_count p mode) (first_if (header p) rows)) (final_types p dialect (column_count p mode) (behind_first_if (header p) rows))
      ≡ types_by_name o.column_types names found_types =
      none_given p.column_types (final_names o.names dialect (column_count p mode) (first_if (header p) rows)) (final_types p dialect (column_count p mode) (behind_first_if (header p) rows)) refl
      ∙ typed_listed o.all_varchar types (detected_types p dialect (column_count p mode) (behind_first_if (header p) rows)) (column_count p mode) plain some_type
      ∙ sym (all_given o.column_types names types found_types all (found ∙ sym counted)) in
      λ i. record {
        dialect = dialect;
        newline = newline_of sample spans;
        skip = o.skip;
        header = same i;
        names = named i;
        types = typed i;
        data_start = behind_row sample (first_if (same i) spans);
        noticed = with_zeros (noticed_in o sample whole dialect spans) (zero_columns o dialect (typed i) (behind_first_if (same i) (take ZERO_ROWS rows)));
      }
