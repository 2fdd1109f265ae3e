use Rattle.std.proofs.Common.{◌≡◌, ◌<◌, ◌+◌, ℕ, Bool, true, false, cond, List, [], ◌∷◌, drop, get_or, length, Some, None, sym, ◌∙◌, ap, arith}
use Rattle.std.specs.List.{find}
use Rattle.std.specs.Option.{option_map_or}
use Rattle.std.proofs.lemmas.Option.{slice_get-get_or}
use Rattle.byte_classes.specs.Dialect.{Marks}
use Rattle.dialect_rank.specs.Sampled.{Span}
use Rattle.load_options.proofs.ListSteps.{drop-at}
use Rattle.csv_sniffer.specs.Noticed.{has_fields, later_row, lines_before}
use Rattle.csv_sniffer.proofs.noticing.lines_above.Goals as goal

abbrev nowhere : Span
nowhere = (0, 0)

-- the first row has another number of fields
later_is : (sample : List ℕ) (d : Marks) (count : ℕ) (spans : List Span) → 0 < length spans → has_fields sample d count (get_or spans 0 nowhere) ≡ false →
    later_row sample d count spans ≡ find (has_fields sample d count) (drop 1 spans)
later_is sample d count [] some is = absurd (let no : ⊥ = omega (arith, some) in no)
later_is sample d count (first ∷ spans) some is = ap (λ t. cond t None (find (has_fields sample d count) spans)) is

-- the first of the rows that are left, and those behind it
find_on : (p : Span → Bool) (spans : List Span) (row : ℕ) (has : Bool) → row < length spans → p (get_or spans row nowhere) ≡ has →
    find p (drop row spans) ≡ cond has (Some (get_or spans row nowhere)) (find p (drop (row + 1) spans))
find_on p spans row has within is =
    let span = get_or spans row nowhere in
    ap (find p) (drop-at spans row span (slice_get-get_or spans row nowhere within)) ∙ ap (λ t. cond t (Some span) (find p (drop (row + 1) spans))) is

pub returns-then-branch-2 : goal.returns-then-branch-2
returns-then-branch-2 c =
    let sample : List ℕ = c.args.rows.now.sample.now in
    let spans = c.args.rows.now.spans in
    let row = c.loop-row.row in
    let has : Span → Bool = has_fields sample c.args.rows.now.dialect c.args.mode in
    let within : row < length spans = omega (arith, c.loop-row-test.true, c.len-row-end.ensures) in
    let some : 0 < length spans = omega (arith, within) in
    let at = slice_get-get_or spans row nowhere within in
    let first : has (get_or spans 0 nowhere) ≡ false = sym (c.in_ok-has_fields.ensures (get_or spans 0 nowhere) (slice_get-get_or spans 0 nowhere some)) ∙ c.if-branch.false in
    let here : has (get_or spans row nowhere) ≡ true = sym (c.in_ok-has_fields-2.ensures (get_or spans row nowhere) at) ∙ c.if-branch-2.true in
    c.lines_before.ensures (get_or spans row nowhere) at
    ∙ sym (ap (λ found. option_map_or (lines_before sample) found 0)
    (later_is sample c.args.rows.now.dialect c.args.mode spans some first ∙ sym c.loop-row.invariant.found ∙ find_on has spans row true within here))

pub loop-row-preserved : goal.loop-row-preserved
loop-row-preserved c =
    let spans = c.args.rows.now.spans in
    let row = c.loop-row.row in
    let has : Span → Bool = has_fields c.args.rows.now.sample.now c.args.rows.now.dialect c.args.mode in
    let within : row < length spans = omega (arith, c.loop-row-test.true, c.len-row-end.ensures) in
    let here : has (get_or spans row nowhere) ≡ false =
    sym (c.in_ok-has_fields-2.ensures (get_or spans row nowhere) (slice_get-get_or spans row nowhere within)) ∙ c.if-branch-2.false in record {
      low = omega arith;
      found = sym (find_on has spans row false within here) ∙ c.loop-row.invariant.found;
    }
