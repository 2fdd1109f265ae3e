use Rattle.std.proofs.Common.{◌≡◌, ◌++◌, map, take}
use Rattle.db_pages.specs.Grown.{moved}
use Rattle.db_pages.proofs.table_pages.push_moved.Given as goal

-- the leaves so far are appended
abbrev pub invariant-loop-child : goal.invariant-loop-child
invariant-loop-child l = l.into.items ≡ l.fn.into.items ++ map (moved l.from l.to) (take l.child-index l.leaves)
