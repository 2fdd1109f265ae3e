-- A drawer's view after each kind of step, and what a claim's step tells.
use Rattle.std.specs.Prelude.{◌≡◌, ℕ, ◌+◌, ◌-◌, ◌<◌, ◌≤◌, true, false, [], ◌∷◌, ◌++◌}
use Rattle.std.specs.List.{All}
use Rattle.atomic_table.specs.Table.{Me, Step}
use Rattle.claim_board.specs.declared.rule.DrawerView.{DrawerView}

-- how often the first drawer may split
abbrev pub first_splits : ℕ
first_splits = 63

-- a drawer that has drawn nothing yet
abbrev pub fresh : ℕ → ℕ → DrawerView
fresh count splits = record { count = count; drawn = []; splits = splits; done = false; ended = false; steps = 0 }

-- a drawer that drew n besides
abbrev pub drew : DrawerView → ℕ → DrawerView
drew v n = record { count = v.count; drawn = v.drawn ++ n ∷ []; splits = v.splits; done = v.done; ended = v.ended; steps = v.steps + 1 }

-- a drawer that found all numbers drawn
abbrev pub all_drawn : DrawerView → DrawerView
all_drawn v = record { count = v.count; drawn = v.drawn; splits = v.splits; done = true; ended = v.ended; steps = v.steps + 1 }

-- a drawer from which another was split off, and that other
abbrev pub one_fewer : DrawerView → DrawerView
one_fewer v = record { count = v.count; drawn = v.drawn; splits = v.splits - 1; done = v.done; ended = v.ended; steps = v.steps + 1 }

abbrev pub newcomer : DrawerView → DrawerView
newcomer v = fresh v.count 0

-- a drawer that took in the numbers of another, and what that other is from then on
abbrev pub joined : DrawerView → DrawerView → DrawerView
joined v w = record { count = v.count; drawn = v.drawn ++ w.drawn; splits = v.splits; done = v.done; ended = v.ended; steps = v.steps + 1 }

abbrev pub over : DrawerView
over = record { count = 0; drawn = []; splits = 0; done = false; ended = true; steps = 0 }

-- a claim's step finds n: where n is below the count it is drawn, and all that the drawer drew before is below it; else all were drawn
abbrev pub Claims : Step (Unit {0}) → Me (Unit {0}) DrawerView → ℕ → Me (Unit {0}) DrawerView → Type 0
Claims st m n m' = (m'.1 ≡ m.1) × (n < m.0.count → (m'.0 ≡ drew m.0 n) × All (λ x. x < n) m.0.drawn) × (m.0.count ≤ n → m'.0 ≡ all_drawn m.0)
