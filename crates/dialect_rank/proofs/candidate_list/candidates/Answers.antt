use Rattle.std.proofs.Common.{◌≡◌, ℕ, ◌<◌, List, [], length, get_or, map, take, sym, ap, subst, ◌∙◌}
use Rattle.std.specs.Prelude.{All}
use Rattle.std.proofs.lemmas.List.{take_all}
use Rattle.byte_classes.specs.Dialect.{Marks, IsDialect}
use Rattle.dialect_rank.specs.Candidates.{Quoting, delims, quotings, with_delim, candidates_of}
use Rattle.dialect_rank.specs.Listing.{IsAsciiQuoting, with_candidates}
use Rattle.dialect_rank.proofs.CandidateLaws.{combined, short_comment, short_delims, short_quotings, candidates_are_dialects}
use Rattle.dialect_rank.proofs.SomeCandidate.{some_candidates}
use Rattle.dialect_rank.proofs.ListingSteps.{delim-more, candidates-all}
use Rattle.dialect_rank.proofs.candidate_list.candidates.Goals as goal

pub push_candidates-requires : goal.push_candidates-requires
push_candidates-requires c =
    let o = c.args.options.now in
    let delims_are : c.deref-delim-items.result.now ≡ delims o.delim = c.deref-delim-items.ensures.value ∙ c.in_ok-delims.ensures in
    let quotings_are : c.deref.result.now ≡ quotings o.quote o.escape = c.deref.ensures.value ∙ c.in_ok-quotings.ensures in
    let short : All (λ b. b < 128) c.deref-delim-items.result.now = subst (All (λ b. b < 128)) (sym delims_are) (short_delims o.delim c.requires.delim) in
    let ascii : All IsAsciiQuoting c.deref.result.now = subst (All IsAsciiQuoting) (sym quotings_are) (short_quotings o.quote o.escape c.requires.quote c.requires.escape) in
    record { within = (short_comment o.comment c.requires.comment, short c.loop-delim.delim-index 0 c.loop-delim-test.true, ascii) }

pub loop-delim-preserved : goal.loop-delim-preserved
loop-delim-preserved c =
    let k = c.args.options.now.comment in
    let qs : List Quoting = c.in_ok-quotings.quotings.items in
    let ds : List ℕ = c.deref-delim-items.result.now in
    let i : ℕ = c.loop-delim.delim-index in
    let now : List Quoting = c.deref.result.now in
    c.in_ok-push_candidates.ensures.ok
    ∙ ap (λ list. with_candidates list (map (with_delim k (get_or ds i 0)) now)) c.loop-delim.invariant
    ∙ ap (λ q. with_candidates (with_candidates [] (combined k qs (take i ds))) (map (with_delim k (get_or ds i 0)) q)) c.deref.ensures.value
    ∙ sym (delim-more k qs ds i 0 c.loop-delim-test.true)

pub returns : goal.returns
returns c =
    let o = c.args.options.now in
    let ds : List ℕ = c.deref-delim-items.result.now in
    let delims_are : ds ≡ delims o.delim = c.deref-delim-items.ensures.value ∙ c.in_ok-delims.ensures in
    let whole : take c.loop-delim.delim-index ds ≡ ds = take_all c.loop-delim.delim-index ds c.loop-delim-test.false in
    let is : c.loop-delim.list ≡ candidates_of o =
    c.loop-delim.invariant
    ∙ (λ i. with_candidates [] (combined o.comment (c.in_ok-quotings.ensures i) (whole i)))
    ∙ ap (λ delims. with_candidates [] (combined o.comment (quotings o.quote o.escape) delims)) delims_are
    ∙ candidates-all (combined o.comment (quotings o.quote o.escape) (delims o.delim)) in record {
      ok = is;
      value = (
        subst (λ (list : List Marks). 0 < length list) (sym is) (some_candidates o c.requires),
        subst (All IsDialect) (sym is) (candidates_are_dialects o c.requires),
      );
    }
