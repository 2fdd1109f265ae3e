use Rattle.std.proofs.Common.{◌≡◌, [], take}
use Rattle.dialect_rank.specs.Listing.{with_candidates}
use Rattle.dialect_rank.proofs.CandidateLaws.{combined}
use Rattle.dialect_rank.proofs.candidate_list.candidates.Given as goal

abbrev pub invariant-loop-delim : goal.invariant-loop-delim
invariant-loop-delim l = l.list ≡ with_candidates [] (combined l.options.comment l.quotings.items (take l.delim-index l.delim-items))
