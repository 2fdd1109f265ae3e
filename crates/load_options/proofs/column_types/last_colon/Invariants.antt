use Rattle.std.proofs.Common.{◌≡◌, length}
use Rattle.std.specs.Path.{rfind_below}
use Rattle.load_options.proofs.column_types.last_colon.Given as goal

-- no colon from the place on
abbrev pub invariant-loop-at : goal.invariant-loop-at
invariant-loop-at l = rfind_below 58 l.pair l.at ≡ rfind_below 58 l.pair (length l.pair)
