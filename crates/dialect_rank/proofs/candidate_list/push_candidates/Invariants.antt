use Rattle.std.proofs.Common.{◌≡◌, map, take}
use Rattle.dialect_rank.specs.Candidates.{with_delim}
use Rattle.dialect_rank.specs.Listing.{with_candidates}
use Rattle.dialect_rank.proofs.candidate_list.push_candidates.Given as goal

abbrev pub invariant-loop-quoting : goal.invariant-loop-quoting
invariant-loop-quoting l = l.list ≡ with_candidates l.initial.list (map (with_delim l.comment l.delim) (take l.quoting-index l.quotings))
