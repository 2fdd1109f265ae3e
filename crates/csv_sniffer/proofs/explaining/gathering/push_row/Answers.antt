use Rattle.std.proofs.Common.{◌≡◌, ◌+◌, ℕ, List, [], drop, length, get_or, Option, Some, sym, subst, ap, ◌∙◌, arith}
use Rattle.std.specs.Prelude.{slice_get}
use Rattle.std.specs.List.{cons_option}
use Rattle.std.specs.Option.{option_map}
use Rattle.std.proofs.lemmas.Option.{get_or_from_slice_get, slice_get-map}
use Rattle.row_fields.specs.Fields.{fields}
use Rattle.load_options.proofs.ListSteps.{drop-at}
use Rattle.dialect_rank.specs.Sampled.{Span, span_bytes}
use Rattle.csv_sniffer.specs.ColumnTypes.{agrees}
use Rattle.csv_sniffer.specs.Columns.{HasValues, with_entries}
use Rattle.csv_sniffer.specs.Entries.{entry_in}
use Rattle.csv_sniffer.specs.Rows.{IsRow, row_texts}
use Rattle.csv_sniffer.proofs.EntrySteps.{values_skipped, values_taken}
use Rattle.csv_sniffer.proofs.explaining.gathering.push_row.Goals as goal

same_text : (x y : List ℕ) (o : Option (List ℕ)) → o ≡ Some x → o ≡ Some y → x ≡ y
same_text x y o a b = cc

-- the bytes of the row at a place
bytes_at : (sample : List ℕ) (spans : List Span) (row : ℕ) (span : Span) (bytes : List ℕ) → slice_get spans row ≡ Some span → slice_get (row_texts sample spans) row ≡ Some bytes → bytes ≡ span_bytes sample span
bytes_at sample spans row span bytes at is =
    same_text bytes (span_bytes sample span) (slice_get (row_texts sample spans) row) is (slice_get-map (span_bytes sample) spans row ∙ ap (option_map (span_bytes sample)) at)

pub returns-then-not-agrees-clause-values : goal.returns-then-not-agrees-clause-values
returns-then-not-agrees-clause-values c = λ start spans has.
    let o = c.args.file.now.options.now in
    let d = c.args.file.now.rows.dialect in
    let front : List ℕ = c.args.file.now.front.now in
    let sample : List ℕ = c.args.file.now.rows.sample.now in
    let all : List Span = c.args.file.now.rows.spans in
    let row = c.args.row in
    let span = c.get-span.result in
    let now = c.args.samples.now in
    let bytes : List ℕ = c.in_ok-bytes.bytes.now in
    let there : bytes ≡ span_bytes sample span = bytes_at sample all row span bytes c.get-span.ensures c.in_ok-bytes.ensures.value in
    values_skipped o d front sample start spans span (drop (row + 1) all) now
    (subst (λ l. HasValues o d front sample start spans l now) (drop-at all row span c.get-span.ensures) has)
    (ap (agrees d (length now)) (sym there) ∙ sym (c.agrees.ensures d bytes c.in_ok-bytes.ensures.ok) ∙ c.if-not-agrees.true)

pub line_of-line-requires-clause-within : goal.line_of-line-requires-clause-within
line_of-line-requires-clause-within c =
    let d = c.args.file.now.rows.dialect in
    let sample : List ℕ = c.args.file.now.rows.sample.now in
    let all : List Span = c.args.file.now.rows.spans in
    let span = c.get-span.result in
    let is : IsRow d sample span = subst (IsRow d sample) (get_or_from_slice_get all c.args.row span span c.get-span.ensures) (c.requires.rows c.args.row span c.requires.within) in
    omega (arith, is.ordered, is.within)

pub returns-clause-values : goal.returns-clause-values
returns-clause-values c = λ start spans has.
    let o = c.args.file.now.options.now in
    let d = c.args.file.now.rows.dialect in
    let front : List ℕ = c.args.file.now.front.now in
    let sample : List ℕ = c.args.file.now.rows.sample.now in
    let all : List Span = c.args.file.now.rows.spans in
    let row = c.args.row in
    let span = c.get-span.result in
    let now = c.args.samples.now in
    let bytes : List ℕ = c.in_ok-bytes.bytes.now in
    let split = c.in_ok-bytes.ensures.ok in
    let there : bytes ≡ span_bytes sample span = bytes_at sample all row span bytes c.get-span.ensures c.in_ok-bytes.ensures.value in
    let split_is = split.fields ∙ ap (fields d) there in
    values_taken o d front sample start spans span (drop (row + 1) all) now
    (subst (λ l. HasValues o d front sample start spans l now) (drop-at all row span c.get-span.ensures) has)
    c.push_values.new.samples
    (ap (agrees d (length now)) (sym there) ∙ sym (c.agrees.ensures d bytes split) ∙ c.if-not-agrees.false)
    c.push_values.auto.samples
    (λ k other lt. c.in_ok-push_values.ensures k other lt
    ∙ (λ i. with_entries (get_or now k other) (cons_option (entry_in o (c.line_of-line.ensures.value i) (split_is i) k) [])))
