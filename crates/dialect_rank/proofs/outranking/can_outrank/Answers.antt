use Rattle.std.proofs.Common.{◌≤◌, ◌∙◌, sym}
use Rattle.dialect_rank.specs.Rank.{is_well_quoted, truth_number}
use Rattle.dialect_rank.specs.Score.{score_of}
use Rattle.dialect_rank.proofs.Outranked.{le_from, outranked, well_quoted, without_quotes}
use Rattle.dialect_rank.proofs.QuoteSearch.{lacking}
use Rattle.dialect_rank.proofs.outranking.can_outrank.Goals as goal
use Rattle.dialect_rank.proofs.outranking.can_outrank.Goals.{else-not-is_well_quoted-via-then-not-is_well_quoted+else-not-lacks_quote, else-not-is_well_quoted-via-else-not-is_well_quoted}

pub returns-in-Some : goal.returns-in-Some
returns-in-Some c =
    let d = c.args.dialect.now in
    let sample = c.args.sample.now.bytes.now in
    let whole = c.args.sample.now.whole in
    let size = c.args.sample.now.sample_size in
    let best = c.args.best.now in
    let perfect = sym c.is_perfect.ensures ∙ c.if-not-is_perfect.false in
    let quoted : truth_number (is_well_quoted (score_of d sample whole size)) ≤ truth_number (is_well_quoted best) = elim c.else-not-is_well_quoted.branch [
      | else-not-is_well_quoted-via-then-not-is_well_quoted+else-not-lacks_quote w ↦ without_quotes d sample whole size best perfect (lacking sample d.quote (sym w.lacks_quote.ensures ∙ w.if-not-lacks_quote.false))
      | else-not-is_well_quoted-via-else-not-is_well_quoted w ↦ well_quoted d sample whole size best perfect (sym c.is_well_quoted.ensures ∙ w.if-not-is_well_quoted.false)
    ] in
    λ h. outranked d sample whole size best perfect quoted c.in-Some.count (sym c.in_ok-count.ensures ∙ c.in-Some.is) (le_from best.mode c.in-Some.count h)
