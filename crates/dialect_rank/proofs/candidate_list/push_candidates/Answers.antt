use Rattle.std.proofs.Common.{get_or, sym, ap, ◌∙◌}
use Rattle.dialect_rank.specs.Candidates.{with_delim, no_quote}
use Rattle.dialect_rank.specs.Listing.{with_candidate}
use Rattle.dialect_rank.proofs.ListingSteps.{quoting-more}
use Rattle.dialect_rank.proofs.candidate_list.push_candidates.Goals as goal

pub loop-quoting-preserved : goal.loop-quoting-preserved
loop-quoting-preserved c =
    let delim = c.args.delim in
    let comment = c.args.comment in
    let quotings = c.args.quotings.now in
    let i = c.loop-quoting.quoting-index in
    c.in_ok-push_candidate.ensures.ok ∙ ap (λ list. with_candidate list (with_delim comment delim (get_or quotings i no_quote))) c.loop-quoting.invariant
    ∙ sym (quoting-more c.args.list.now comment delim quotings i no_quote c.loop-quoting-test.true)
