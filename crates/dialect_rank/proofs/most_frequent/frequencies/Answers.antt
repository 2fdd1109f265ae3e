use Rattle.std.proofs.Common.{◌≡◌, ℕ, ◌+◌, ◌<◌, false, List, length, get_or, ap, ◌∙◌, arith}
use Rattle.std.proofs.lemmas.List.{get_or_default, get_or_read}
use Rattle.dialect_rank.specs.declared.shape.RowShape.{RowShape}
use Rattle.dialect_rank.proofs.Frequencies.{counted_more, times-taken_le}
use Rattle.dialect_rank.proofs.most_frequent.frequencies.Goals as goal

abbrev no_row : RowShape
no_row = record { fields = 0; sound = false }

pub overflow_add-index_mut : goal.overflow_add-index_mut
overflow_add-index_mut c =
    let rows : List RowShape = c.args.rows.now in
    let i : ℕ = c.loop-row.row-index in
    let fields : ℕ = (get_or rows i no_row).fields in
    let counts : List ℕ = c.reach.new.counts.items in
    let x : ℕ = c.index_mut.result.now in
    let inside : fields < length counts = omega (arith, c.in_ok-reach.ensures.ok, c.reach.new.counts.ok) in
    let read : x ≡ get_or counts fields 0 = get_or_read counts fields x inside c.index_mut.ensures.value 0 in
    omega (arith, read ∙ c.in_ok-reach.ensures.same fields ∙ c.loop-row.invariant fields, times-taken_le rows i fields, c.loop-row-test.true)

pub loop-row-preserved : goal.loop-row-preserved
loop-row-preserved c =
    let rows : List RowShape = c.args.rows.now in
    let i : ℕ = c.loop-row.row-index in
    let row : RowShape = get_or rows i no_row in
    let counts : List ℕ = c.reach.new.counts.items in
    let x : ℕ = c.index_mut.result.now in
    let inside : row.fields < length counts = omega (arith, c.in_ok-reach.ensures.ok, c.reach.new.counts.ok) in
    let read : x ≡ get_or counts row.fields 0 = get_or_read counts row.fields x inside c.index_mut.ensures.value 0 in
    counted_more rows i row counts (x + 1) c.loop-row-test.true (get_or_default rows i no_row row c.loop-row-test.true) inside
    (λ n. c.in_ok-reach.ensures.same n ∙ c.loop-row.invariant n) (ap (λ k. k + 1) read)
