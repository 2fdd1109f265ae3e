use Rattle.std.proofs.Common.{◌≡◌, ◌<◌, ◌≤◌, ℕ, List, Option, Some, false, length, ◌∙◌, ap, sym, arith}
use Rattle.std.specs.Prelude.{slice_get}
use Rattle.std.specs.Option.{option_map_or}
use Rattle.row_fields.specs.Fields.{fields}
use Rattle.csv_sniffer.specs.ColumnNames.{detected_names}
use Rattle.csv_sniffer.specs.LaterHeader.{names_columns}
use Rattle.csv_sniffer.specs.Rows.{row_texts}
use Rattle.csv_sniffer.proofs.LaterHeaders.{names_decide, too_many_fields}
use Rattle.csv_sniffer.proofs.later_header.names_columns.Goals as goal

pub returns-then-count-columns : goal.returns-then-count-columns
returns-then-count-columns c =
    let s = c.args.found.now in
    let d = c.args.rows.now.dialect in
    let row = c.in_ok-read.field-0.now in
    let many : c.count.result ≡ length (fields d row) = c.count.ensures.value row ∙ ap length c.in_ok-read.ensures.ok.fields in
    let over : length s.names < length (fields d row) = omega (arith, many, c.len-columns.ensures, c.if-count-columns.true) in
    sym (ap (λ (o : Option (List ℕ)). option_map_or (names_columns s) o false) c.in_ok-read.ensures.value ∙ too_many_fields s d row c.requires.dialect over)

pub returns : goal.returns
returns c =
    let s = c.args.found.now in
    let d = c.args.rows.now.dialect in
    let row = c.in_ok-read.field-0.now in
    let many : c.count.result ≡ length (fields d row) = c.count.ensures.value row ∙ ap length c.in_ok-read.ensures.ok.fields in
    let fits : length (fields d row) ≤ length s.names = omega (arith, many, c.len-columns.ensures, c.if-count-columns.false) in
    let named : c.in_ok-names.names ≡ detected_names d (length s.names) (Some row) =
    c.in_ok-names.ensures ∙ ap (λ n. detected_names d n (slice_get (row_texts c.args.rows.now.sample.now c.args.rows.now.spans) 0)) c.len-columns.ensures
    ∙ ap (detected_names d (length s.names)) c.in_ok-read.ensures.value in
    sym (ap (λ (o : Option (List ℕ)). option_map_or (names_columns s) o false) c.in_ok-read.ensures.value ∙ names_decide s d row c.requires.dialect c.in_ok-names.names c.are_same.result fits named c.are_same.ensures)
