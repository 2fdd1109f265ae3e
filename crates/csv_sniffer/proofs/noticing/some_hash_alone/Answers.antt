use Rattle.std.proofs.Common.{◌≡◌, ◌<◌, List, ℕ, [], true, false, get_or, length, Some, sym, ◌∙◌, arith}
use Rattle.std.specs.Prelude.{slice_get}
use Rattle.std.proofs.lemmas.List.{length-map}
use Rattle.std.proofs.lemmas.Option.{slice_get-get_or}
use Rattle.dialect_rank.specs.Sampled.{Span, span_bytes}
use Rattle.csv_sniffer.specs.Noticed.{is_hash_alone}
use Rattle.csv_sniffer.specs.Rows.{row_texts}
use Rattle.csv_sniffer.proofs.ListWalks.{any_on}
use Rattle.csv_sniffer.proofs.noticing.some_hash_alone.Goals as goal

text_at : (sample : List ℕ) (spans : List Span) (row : ℕ) → row < length spans → slice_get (row_texts sample spans) row ≡ Some (get_or (row_texts sample spans) row [])
text_at sample spans row within = slice_get-get_or (row_texts sample spans) row [] (omega (arith, length-map spans (span_bytes sample), within))

pub returns-then-branch : goal.returns-then-branch
returns-then-branch c =
    let spans = c.args.rows.now.spans in
    let sample : List ℕ = c.args.rows.now.sample.now in
    let texts : List (List ℕ) = row_texts sample spans in
    let row = c.loop-row.row in
    let at = text_at sample spans row (omega (arith, c.loop-row-test.true, c.len-row-end.ensures)) in
    any_on (is_hash_alone c.args.rows.now.dialect) texts row (get_or texts row []) true _ at (sym (c.in_ok-is_hash_alone.ensures (get_or texts row []) at) ∙ c.if-branch.true) c.loop-row.invariant

pub loop-row-preserved : goal.loop-row-preserved
loop-row-preserved c =
    let spans = c.args.rows.now.spans in
    let sample : List ℕ = c.args.rows.now.sample.now in
    let texts : List (List ℕ) = row_texts sample spans in
    let row = c.loop-row.row in
    let at = text_at sample spans row (omega (arith, c.loop-row-test.true, c.len-row-end.ensures)) in
    any_on (is_hash_alone c.args.rows.now.dialect) texts row (get_or texts row []) false _ at (sym (c.in_ok-is_hash_alone.ensures (get_or texts row []) at) ∙ c.if-branch.false) c.loop-row.invariant
