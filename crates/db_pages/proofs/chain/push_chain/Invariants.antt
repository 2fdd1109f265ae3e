use Rattle.std.proofs.Common.{◌≡◌, ◌+◌, ◌++◌, length}
use Rattle.db_pages.specs.Laid.{chain}
use Rattle.db_pages.proofs.chain.push_chain.Given as goal

-- what is left is a chain behind that so far
abbrev pub invariant-loop-rest : goal.invariant-loop-rest
invariant-loop-rest l =
    l.fn.into.items ++ chain (length l.fn.bytes + 1) l.fn.first l.fn.bytes ≡ l.into.items ++ chain (length l.rest + 1) l.place l.rest

abbrev pub decreases-loop-rest : goal.decreases-loop-rest
decreases-loop-rest l = length l.rest
