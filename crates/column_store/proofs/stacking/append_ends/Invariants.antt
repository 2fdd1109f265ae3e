use Rattle.std.proofs.Common.{◌≡◌, ◌-◌, ◌+◌, ◌≤◌, ◌++◌, ◌∷◌, length, map, take, vec_len}
use Rattle.std.specs.Prelude.{vec_capacity}
use Rattle.column_store.proofs.stacking.append_ends.Given as goal

abbrev pub invariant-loop-other : goal.invariant-loop-other
invariant-loop-other l =
    (l.ends.items ≡ l.fn.ends.items ++ l.end ∷ map (λ other. l.end + other) (take l.other-index l.others)) × (vec_len l.ends + (length l.others - l.other-index) ≤ vec_capacity l.ends)
