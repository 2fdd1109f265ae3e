use Rattle.std.proofs.Common.{◌≡◌, ℕ, ◌∷◌, ◌++◌, List, [], cond, sym, ap, ◌∙◌, ◌≤◌, arith}
use Rattle.std.proofs.lemmas.Bool.{lt-ltb, le-ltb}
use Rattle.dialect_rank.specs.Sampled.{Span}
use Rattle.row_fields.specs.Next.{next_start}
use Rattle.dialect_rank.specs.Walk.{filled_from}
use Rattle.dialect_rank.proofs.FoundRows.{no_comment}
use Rattle.dialect_rank.proofs.RowSpans.{filled_from-next, StartsAt, first_start-some, first_start-none}
use Rattle.dialect_rank.proofs.row_count.found_row.next_filled.Goals as goal

after : (sample : List ℕ) (from at end next : ℕ) → from ≤ at → at ≤ end → next ≡ next_start sample end → from ≤ next
after sample from at end next low le is = omega (arith, low, le, is)

pub returns-in_default : goal.returns-in_default
returns-in_default c =
    c.loop-at.invariant.0 ∙ first_start-none c.args.dialect.now c.args.sample.now c.loop-at.at (sym c.row_start.ensures ∙ c.in_default.is)

pub row_at-requires : goal.row_at-requires
row_at-requires c =
    let found = first_start-some c.args.dialect.now c.args.sample.now c.loop-at.at c.in-Some.start (sym c.row_start.ensures ∙ c.in-Some.is) in record {
      within = omega (arith, found.high);
      no_comment = no_comment c.args.dialect.now c.args.sample.now c.in-Some.start found.high found.begins;
    }

pub returns-then-start-row : goal.returns-then-start-row
returns-then-start-row c =
    let d = c.args.dialect.now in
    let sample = c.args.sample.now in
    let start = c.in-Some.start in
    let found : StartsAt d sample c.loop-at.at start = first_start-some d sample c.loop-at.at start (sym c.row_start.ensures ∙ c.in-Some.is) in
    let row = c.in_ok-row.row in
    let is = c.in_ok-row.ensures in
    let later : List Span = filled_from d sample (next_start sample row.end) in record {
      next = c.loop-at.invariant.0 ∙ found.rows ∙ filled_from-next d sample start row.end found.high found.begins is.end
          ∙ ap (λ t. cond t ((start, row.end) ∷ []) [] ++ later) (lt-ltb start row.end c.if-start-row.true)
          ∙ ap (λ from. (from, row.end) ∷ later) (sym is.from);
      counts = is.counts;
      low = (let low : c.args.from ≤ c.loop-at.at = c.loop-at.invariant.1 in omega (arith, low, found.low, is.from));
      some = omega (arith, is.from, c.if-start-row.true);
      high = is.high;
    }

pub loop-at-preserved : goal.loop-at-preserved
loop-at-preserved c =
    let d = c.args.dialect.now in
    let sample = c.args.sample.now in
    let start = c.in-Some.start in
    let found : StartsAt d sample c.loop-at.at start = first_start-some d sample c.loop-at.at start (sym c.row_start.ensures ∙ c.in-Some.is) in
    let row = c.in_ok-row.row in
    let is = c.in_ok-row.ensures in
    let later : List Span = filled_from d sample (next_start sample row.end) in (
      c.loop-at.invariant.0 ∙ found.rows ∙ filled_from-next d sample start row.end found.high found.begins is.end
          ∙ ap (λ t. cond t ((start, row.end) ∷ []) [] ++ later) (le-ltb start row.end c.if-start-row.false)
          ∙ ap (filled_from d sample) (sym c.next_start-at.ensures),
      (let low : c.args.from ≤ c.loop-at.at = c.loop-at.invariant.1 in
          after sample c.args.from start row.end c.next_start-at.result (omega (arith, low, found.low)) (omega (arith, is.end)) c.next_start-at.ensures),
    )
