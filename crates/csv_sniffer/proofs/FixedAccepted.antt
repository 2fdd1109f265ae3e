-- The options that fix what was found are those of a request that may be accepted.
use Rattle.std.proofs.Common.{◌≡◌, ℕ, ◌≤◌, Bool, true, false, cond, not, ◌&&◌, List, [], ◌∷◌, length, map, drop, Option, Some, None, refl, sym, ap, ◌∙◌}
use Rattle.std.specs.Prelude.{◌==◌, ◌≢◌, IfSome, IsSome, IsTrue}
use Rattle.std.proofs.lemmas.Option.{IfSome_then}
use Rattle.std.proofs.lemmas.Bool.{and_parts, and_from, and_left, and_right, cond_both, eq-eqb, leb-true, lt-ltb, ne_eqb, not-true, not_from_false, not_from_true}
use Rattle.byte_classes.specs.Dialect.{Marks, IsMark, IsDialect}
use Rattle.value_types.specs.declared.types.ColumnType.{ColumnType}
use Rattle.load_options.specs.declared.limits.TheConstants.{COLUMN_LIMIT}
use Rattle.load_options.specs.declared.options.Choice.TheVariants.{Byte}
use Rattle.load_options.specs.declared.options.Options.{Options}
use Rattle.load_options.specs.Accepted.{IsAccepted, ChoosesMark}
use Rattle.load_options.specs.Conflicts.{chooses_byte, chooses_nothing, detects, is_chosen}
use Rattle.load_options.specs.Marks.{is_mark}
use Rattle.csv_source.specs.Lists.{is_empty}
use Rattle.dialect_rank.specs.Candidates.{candidates_of, choice_of, with_delim, no_quote}
use Rattle.dialect_rank.specs.Rank.{best_place}
use Rattle.dialect_rank.specs.Score.{score_of}
use Rattle.dialect_rank.proofs.CandidateLaws.{candidates_are_dialects}
use Rattle.dialect_rank.proofs.GivenDialect.{given_comment}
use Rattle.csv_sniffer.specs.Fixed.{fixed, fixed_types, fixes_types}
use Rattle.csv_sniffer.specs.Laws.{FixedIsAccepted}
use Rattle.csv_sniffer.specs.Sample.{start_of_sample, sample_of, is_whole}
use Rattle.csv_sniffer.specs.Sniffed.{sniffed}
use Rattle.csv_sniffer.specs.declared.found.Sniffed.{Sniffed}
use Rattle.csv_sniffer.proofs.FixedDialect.{chosen_within}
use Rattle.csv_sniffer.proofs.FixedLaws.{length-sniffed_types}

-- ---- the bytes of a dialect as options

mark_is : (b : ℕ) → IsMark b → IsTrue (is_mark b)
mark_is b h = and_from _ _ (and_from _ _ (lt-ltb b 128 h.0) (not_from_false _ (ne_eqb b 10 h.1))) (not_from_false _ (ne_eqb b 13 h.2))

chosen_mark : (o : Option ℕ) → IfSome o IsMark → ChoosesMark (choice_of o)
chosen_mark None h = tt
chosen_mark (Some b) h = mark_is b h

not_chosen : (b : ℕ) (o : Option ℕ) → IfSome o (λ a. a ≢ b) → is_chosen (Some b) (choice_of o) ≡ false
not_chosen b None h = refl
not_chosen b (Some a) h = ne_eqb a b h

comment_not_delim : (comment : Option ℕ) (delim : ℕ) → IfSome comment (λ k. k ≢ delim) → is_chosen comment (Byte delim) ≡ false
comment_not_delim None delim h = refl
comment_not_delim (Some k) delim h = ne_eqb delim k (λ e. h (sym e))

comment_not_chosen : (comment o : Option ℕ) → IfSome comment (λ k. IfSome o (λ b. k ≢ b)) → is_chosen comment (choice_of o) ≡ false
comment_not_chosen None o h = refl
comment_not_chosen (Some k) o h = not_chosen k o (IfSome_then o h (λ b differ e. differ (sym e)))

escape_has_quote : (quote escape : Option ℕ) → IfSome escape (λ e. IsSome quote) → (chooses_byte (choice_of escape) && chooses_nothing (choice_of quote)) ≡ false
escape_has_quote quote None h = refl
escape_has_quote None (Some e) h = absurd (let no : ⊥ = cc in no)
escape_has_quote (Some q) (Some e) h = refl

given_is_found : (o : Option ℕ) → detects (choice_of o) ≡ false
given_is_found None = refl
given_is_found (Some b) = refl

-- ---- types as many as names

counts_agree : (names : List (List ℕ)) (ts : List ColumnType) (other : ℕ) → length ts ≡ cond (not (is_empty names)) (length names) other →
    (not (is_empty names) && not (is_empty ts) && not (length names == length ts)) ≡ false
counts_agree [] ts other e = refl
counts_agree (name ∷ names) ts other e = and_right (not (is_empty ts)) (not (length (name ∷ names) == length ts)) (not_from_true _ (eq-eqb (length (name ∷ names)) (length ts) (sym e)))

-- ---- the options

module _ (o : Options) (sample : List ℕ) (whole : Bool) (accepted : IsAccepted o) where
  abbrev s : Sniffed
  s = sniffed o sample whole

  abbrev d : Marks
  d = s.dialect

  abbrev place : ℕ
  place = best_place (map (λ e. score_of e sample whole o.sample_size) (candidates_of o))

  found_dialect : IsDialect d
  found_dialect = candidates_are_dialects o accepted place (with_delim None 44 no_quote) (chosen_within o sample whole accepted)

  commented : d.comment ≡ o.comment
  commented = given_comment o place (with_delim None 44 no_quote) (chosen_within o sample whole accepted)

  -- a fact of the types in the end, where they can be given and else
  of_types : (P : List ColumnType → Type 0) → (fixes_types o s ≡ true → P s.types) → P o.types → P (fixed_types o s)
  of_types P given other = cond_both (fixes_types o s) s.types o.types P given (λ e. other)

  free : fixes_types o s ≡ true → (o.all_varchar ≡ false) × (is_empty o.column_types.names ≡ true)
  free fixes = let parts = and_parts _ _ (and_parts _ _ fixes).0 in (not-true o.all_varchar parts.0, parts.1)

  pub sniffed_is_accepted : IsAccepted (fixed o s)
  sniffed_is_accepted = record {
    delim = mark_is d.delim found_dialect.delim;
    quote = chosen_mark d.quote (IfSome_then d.quote found_dialect.quote (λ b h. h.0));
    escape = chosen_mark d.escape (IfSome_then d.escape found_dialect.escape (λ b h. h.0));
    comment = accepted.comment;
    skip = accepted.skip;
    names = accepted.names;
    types = of_types (λ ts. length ts ≤ COLUMN_LIMIT) (λ fixes. leb-true _ _ (and_parts _ _ fixes).1) accepted.types;
    column_names = accepted.column_names;
    column_types = accepted.column_types;
    columns = accepted.columns;
    nulls = accepted.nulls;
    null_count = accepted.null_count;
    sample_size = accepted.sample_size;
    rejects_limit = accepted.rejects_limit;
    max_errors = accepted.max_errors;
    max_line_size = accepted.max_line_size;
    max_input = accepted.max_input;
    threads = accepted.threads;
    range_size = accepted.range_size;
    size = accepted.size;
    table = accepted.table;
    varchar_and_types = of_types (λ ts. (o.all_varchar && not (is_empty ts)) ≡ false) (λ fixes. and_left _ _ (free fixes).0) accepted.varchar_and_types;
    types_twice = of_types (λ ts. (not (is_empty o.column_types.names) && not (is_empty ts)) ≡ false) (λ fixes. and_left _ _ (not_from_true _ (free fixes).1)) accepted.types_twice;
    varchar_and_column_types = accepted.varchar_and_column_types;
    counts_differ = of_types (λ ts. (not (is_empty o.names) && not (is_empty ts) && not (length o.names == length ts)) ≡ false) (λ fixes. counts_agree o.names s.types _ (length-sniffed_types o sample whole accepted)) accepted.counts_differ;
    delim_is_quote = not_chosen d.delim d.quote (IfSome_then d.quote found_dialect.quote (λ b h. h.1));
    delim_is_escape = not_chosen d.delim d.escape (IfSome_then d.escape found_dialect.escape (λ b h. h.1));
    escape_without_quote = escape_has_quote d.quote d.escape (IfSome_then d.escape found_dialect.escape (λ b h. h.2));
    comment_is_delim = ap (λ c. is_chosen c (Byte d.delim)) (sym commented) ∙ comment_not_delim d.comment d.delim (IfSome_then d.comment found_dialect.comment (λ k h. h.1));
    comment_is_quote = ap (λ c. is_chosen c (choice_of d.quote)) (sym commented) ∙ comment_not_chosen d.comment d.quote (IfSome_then d.comment found_dialect.comment (λ k h. h.2));
    comment_is_escape = ap (λ c. is_chosen c (choice_of d.escape)) (sym commented) ∙ comment_not_chosen d.comment d.escape (IfSome_then d.comment found_dialect.comment (λ k h. h.3));
    leaves_no_quote = and_left _ _ (and_right (chooses_byte (choice_of d.escape)) _ (given_is_found d.quote));
  }

pub fixed_is_accepted : FixedIsAccepted
fixed_is_accepted o input accepted = let behind = drop (start_of_sample o.skip input) input in sniffed_is_accepted o (sample_of behind) (is_whole behind) accepted
