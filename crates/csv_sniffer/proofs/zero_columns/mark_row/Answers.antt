use Rattle.std.proofs.Common.{◌+◌, ◌||◌, ◌∙◌, ℕ, List, drop, take, get_or, sym, ap}
use Rattle.load_options.proofs.ListSteps.{drop-at}
use Rattle.csv_sniffer.specs.Rows.{row_texts}
use Rattle.csv_sniffer.specs.ZeroColumns.{has_zero_at, zero_flags}
use Rattle.csv_sniffer.specs.declared.zero_columns.TheConstants.{ZERO_ROWS}
use Rattle.csv_sniffer.proofs.ListWalks.{slice_get-take}
use Rattle.csv_sniffer.proofs.ZeroLaws.{zero_flags-agreeing, zero_flags-other}
use Rattle.csv_sniffer.proofs.zero_columns.mark_row.Goals as goal

pub returns-then-not-agrees : goal.returns-then-not-agrees
returns-then-not-agrees c =
    let o = c.args.columns.now.options.now in
    let d = c.args.rows.now.dialect in
    let tys = c.args.columns.now.types.now in
    let texts : List (List ℕ) = row_texts c.args.rows.now.sample.now c.args.rows.now.spans in
    let front : List (List ℕ) = take ZERO_ROWS texts in
    let row = c.args.row in
    let bytes = c.in_ok-bytes.bytes.now in
    let is = sym (c.agrees.ensures d bytes c.in_ok-bytes.ensures.ok) ∙ c.if-not-agrees.true in
    c.requires.fits ∙ zero_flags-other o d tys bytes (drop (row + 1) front) is
    ∙ sym (ap (zero_flags o d tys) (drop-at front row bytes (slice_get-take ZERO_ROWS texts row bytes c.requires.few c.in_ok-bytes.ensures.value)))

pub returns : goal.returns
returns c =
    let o = c.args.columns.now.options.now in
    let d = c.args.rows.now.dialect in
    let tys = c.args.columns.now.types.now in
    let old = c.args.flags.now in
    let texts : List (List ℕ) = row_texts c.args.rows.now.sample.now c.args.rows.now.spans in
    let front : List (List ℕ) = take ZERO_ROWS texts in
    let row = c.args.row in
    let bytes = c.in_ok-bytes.bytes.now in
    let split = c.in_ok-bytes.ensures.ok in
    let is = sym (c.agrees.ensures d bytes split) ∙ c.if-not-agrees.false in
    zero_flags-agreeing o d tys bytes (drop (row + 1) front) old c.mark_columns.new.flags c.mark_columns.auto.flags is c.requires.fits
    (λ k other within. c.mark_columns.ensures k other within ∙ ap (λ fs. has_zero_at o tys fs k || get_or old k other) split.fields)
    ∙ sym (ap (zero_flags o d tys) (drop-at front row bytes (slice_get-take ZERO_ROWS texts row bytes c.requires.few c.in_ok-bytes.ensures.value)))
