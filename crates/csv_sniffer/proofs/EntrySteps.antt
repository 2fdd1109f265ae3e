-- The values of columns, with one row more.
use Rattle.std.proofs.Common.{◌≡◌, ◌≢◌, ℕ, ◌+◌, ◌<◌, ◌≤◌, true, false, cond, List, [], ◌∷◌, ◌++◌, length, get_or, set, Option, Some, None, refl, sym, ap, ◌∙◌, append_assoc, append-nil, arith, inl, inr}
use Rattle.std.specs.Prelude.{filter}
use Rattle.std.specs.List.{cons_option, filter_map}
use Rattle.std.proofs.lemmas.List.{get_or-set_other, get_or_default}
use Rattle.std.proofs.lemmas.Grind.{get_or-set_at}
use Rattle.std.proofs.lemmas.Bool.Decides.{eqb_tells}
use Rattle.std.proofs.lemmas.List.FromFn.{fill_by_all, get_or-map-range_with_len, length-map-range_with_len}
use Rattle.byte_classes.specs.Dialect.{Marks}
use Rattle.row_fields.specs.Fields.{fields}
use Rattle.load_options.specs.declared.options.Options.{Options}
use Rattle.dialect_rank.specs.Sampled.{Span, span_bytes}
use Rattle.csv_sniffer.specs.ColumnTypes.{agrees}
use Rattle.csv_sniffer.specs.Columns.{HasValues, column_sample, column_samples, no_samples, with_entries}
use Rattle.csv_sniffer.specs.Entries.{entry_in, entries_in, line_at}
use Rattle.csv_sniffer.specs.declared.explaining.entries.ColumnSample.{ColumnSample}
use Rattle.csv_sniffer.specs.declared.explaining.entries.Entry.{Entry}
use Rattle.csv_sniffer.specs.declared.found.Sniffed.{Sniffed}

-- a column with no further values
pub with_none : (c : ColumnSample) → with_entries c [] ≡ c
with_none c = ap (λ es. record c { entries = es }) (append-nil c.entries)

pub with_both : (c : ColumnSample) (es fs : List Entry) → with_entries (with_entries c es) fs ≡ with_entries c (es ++ fs)
with_both c es fs = ap (λ gs. record c { entries = gs }) (append_assoc c.entries es fs)

-- ---- one column more

module _ (entry : ℕ → Option Entry) (start now : List ColumnSample) (column : ℕ) (next : ColumnSample) (within : column < length now) where
  abbrev GrownBelow : ℕ → List ColumnSample → Type 0
  GrownBelow n after = (k : ℕ) (other : ColumnSample) → k < n → get_or after k other ≡ with_entries (get_or start k other) (cons_option (entry k) [])

  abbrev SameFrom : ℕ → List ColumnSample → Type 0
  SameFrom n after = (k : ℕ) (other : ColumnSample) → n ≤ k → get_or after k other ≡ get_or start k other

  pub grown_below : (default : ColumnSample) → next ≡ with_entries (get_or now column default) (cons_option (entry column) []) → SameFrom column now → GrownBelow column now → GrownBelow (column + 1) (set now column next)
  grown_below default is above below k other lt = elim (eqb_tells k column) [
    | inl same ↦
        get_or-set_at now column k next other same.1 within ∙ is
        ∙ ap (λ c. with_entries c (cons_option (entry column) [])) (get_or_default now column default other within ∙ above column other (omega arith))
        ∙ ap (λ j. with_entries (get_or start j other) (cons_option (entry j) [])) (sym same.1)
    | inr apart ↦ (let ne : k ≢ column = apart.1 in get_or-set_other now column k next other ne ∙ below k other (omega (arith, lt, ne)))
  ]

  pub unchanged_from : SameFrom column now → SameFrom (column + 1) (set now column next)
  unchanged_from above k other le = let ne : k ≢ column = omega (arith, le) in get_or-set_other now column k next other ne ∙ above k other (omega (arith, le))

-- ---- one row more

appended : (e : Option Entry) (es : List Entry) → cons_option e [] ++ es ≡ cons_option e es
appended None es = refl
appended (Some e) es = refl

module _ (o : Options) (d : Marks) (front sample : List ℕ) (columns : ℕ) (span : Span) (left : List Span) where
  abbrev kept : List Span
  kept = filter (λ s. agrees d columns (span_bytes sample s)) left

  abbrev entry : ℕ → Option Entry
  entry k = entry_in o (line_at front sample span.0) (fields d (span_bytes sample span)) k

  entries-other : agrees d columns (span_bytes sample span) ≡ false → (k : ℕ) → entries_in o d columns front sample k (span ∷ left) ≡ entries_in o d columns front sample k left
  entries-other is k = ap (λ t. filter_map (λ (s : Span). entry_in o (line_at front sample s.0) (fields d (span_bytes sample s)) k) (cond t (span ∷ kept) kept)) is

  entries-agreeing : agrees d columns (span_bytes sample span) ≡ true → (k : ℕ) → entries_in o d columns front sample k (span ∷ left) ≡ cons_option (entry k) (entries_in o d columns front sample k left)
  entries-agreeing is k = ap (λ t. filter_map (λ (s : Span). entry_in o (line_at front sample s.0) (fields d (span_bytes sample s)) k) (cond t (span ∷ kept) kept)) is

module _ (o : Options) (d : Marks) (front sample : List ℕ) (start : List ColumnSample) (spans : List Span) (span : Span) (left : List Span) (now : List ColumnSample)
    (has : HasValues o d front sample start spans (span ∷ left) now) where
  pub values_skipped : agrees d (length now) (span_bytes sample span) ≡ false → HasValues o d front sample start spans left now
  values_skipped is =
      let other = ap (λ n. agrees d n (span_bytes sample span)) (sym has.count) ∙ is in record {
        count = has.count;
        each = λ k c lt. ap (with_entries (get_or now k c)) (sym (entries-other o d front sample (length start) span left other k)) ∙ has.each k c lt;
      }

  pub values_taken : (new : List ColumnSample) → agrees d (length now) (span_bytes sample span) ≡ true → length new ≡ length now →
      ((k : ℕ) (c : ColumnSample) → k < length now → get_or new k c ≡ with_entries (get_or now k c) (cons_option (entry o d front sample (length start) span left k) [])) → HasValues o d front sample start spans left new
  values_taken new is long each =
      let agree = ap (λ n. agrees d n (span_bytes sample span)) (sym has.count) ∙ is in record {
        count = long ∙ has.count;
        each = λ k c lt.
            let es : List Entry = entries_in o d (length start) front sample k left in
            let e : Option Entry = entry o d front sample (length start) span left k in
            ap (λ x. with_entries x es) (each k c (omega (arith, lt, has.count)))
            ∙ with_both (get_or now k c) (cons_option e []) es
            ∙ ap (with_entries (get_or now k c)) (appended e es ∙ sym (entries-agreeing o d front sample (length start) span left agree k))
            ∙ has.each k c lt;
      }

-- ---- all rows

pub values_of_all : (o : Options) (s : Sniffed) (front sample : List ℕ) (spans left : List Span) (now : List ColumnSample) → left ≡ [] →
    HasValues o s.dialect front sample (no_samples o s) spans left now → now ≡ column_samples o s front sample spans
values_of_all o s front sample spans left now none has =
    let columns : ℕ = length s.types in
    let some : ColumnSample = column_sample o s 0 [] in
    let long : length (no_samples o s) ≡ columns = length-map-range_with_len (λ k. column_sample o s k []) 0 columns in
    fill_by_all (λ k. column_sample o s k (entries_in o s.dialect columns front sample k spans)) now columns some (has.count ∙ long)
    (λ k lt.
    sym (with_none (get_or now k some))
    ∙ ap (λ l. with_entries (get_or now k some) (entries_in o s.dialect (length (no_samples o s)) front sample k l)) (sym none)
    ∙ has.each k some (omega (arith, lt, long))
    ∙ ap (λ n. with_entries (get_or (no_samples o s) k some) (entries_in o s.dialect n front sample k spans)) long
    ∙ ap (λ c. with_entries c (entries_in o s.dialect columns front sample k spans))
    (get_or-map-range_with_len (λ j. column_sample o s j []) 0 columns k k some lt (omega arith)))
