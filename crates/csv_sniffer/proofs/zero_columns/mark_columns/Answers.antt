use Rattle.std.proofs.Common.{◌≡◌, ◌<◌, ◌||◌, ℕ, Bool, false, get_or, length, sym, ap, ◌∙◌, arith}
use Rattle.row_fields.specs.Split.{fields_in}
use Rattle.csv_sniffer.specs.ZeroColumns.{has_zero_at}
use Rattle.csv_sniffer.proofs.ListWalks.{same_from, stepped_below}
use Rattle.csv_sniffer.proofs.zero_columns.mark_columns.Goals as goal
use Rattle.csv_sniffer.proofs.zero_columns.mark_columns.Goals.{then-has_zero_at, else-has_zero_at}

pub loop-column-preserved : goal.loop-column-preserved
loop-column-preserved c =
    let has : ℕ → Bool = has_zero_at c.args.columns.now.options.now c.args.columns.now.types.now (fields_in c.args.row.now c.args.fields.now) in
    let now = c.loop-column.flags in
    let column = c.loop-column.column in
    let step : ℕ → Bool → Bool = λ k b. has k || b in
    let within : column < length now = omega (arith, c.loop-column.auto.flags, c.loop-column-test.true) in
    let is : c.if-has_zero_at.flags ≡ step column (get_or now column false) = elim c.if-has_zero_at.branch [
      | then-has_zero_at w ↦ w.flags-is ∙ w.if-has_zero_at.true ∙ sym (ap (λ b. b || get_or now column false) (sym c.has_zero_at.ensures ∙ w.if-has_zero_at.true))
      | else-has_zero_at w ↦ w.flags-is ∙ sym (ap (λ b. b || get_or now column false) (sym c.has_zero_at.ensures ∙ w.if-has_zero_at.false))
    ] in record {
      below = stepped_below step c.args.flags.now now column c.if-has_zero_at.flags within false is c.loop-column.invariant.above c.loop-column.invariant.below;
      above = same_from step c.args.flags.now now column c.if-has_zero_at.flags within c.loop-column.invariant.above;
    }
