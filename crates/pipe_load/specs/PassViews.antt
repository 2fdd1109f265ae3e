-- What a pass knows of the queue of windows, and what its steps make of it.
use Rattle.std.specs.Prelude.{◌≡◌, ◌≢◌, ℕ, ◌+◌, ◌-◌, ◌≤◌, List, [], ◌∷◌, ◌++◌, length, All}
use mathlib.Core.Option.{some}
use lib.ListN.{get_elem?}
use Rattle.pipe_load.specs.declared.pass_view.PassView.{PassView}
use Rattle.pipe_load.specs.declared.pass_view.Role.TheVariants as roles
use Rattle.pipe_load.specs.declared.window.Window.{Window}
use Rattle.pipe_load.specs.declared.window.Item.{Item}
use Rattle.pipe_load.specs.declared.window.Item.TheVariants as item

-- the caller at first, a stage at first, and a stage that was joined: nothing is put and nothing is taken
abbrev pub caller_view : PassView
caller_view = record { role = roles.Caller; stages = 0; put = []; puts = 0; taken = []; marks_taken = 0 }

abbrev pub stage_view : PassView
stage_view = record caller_view { role = roles.Stage }

abbrev pub spent_view : PassView
spent_view = record caller_view { role = roles.Joined }

-- a pass that may take: the caller's, or a stage's that isn't joined yet
pub record MayTake (v : PassView) : Type 0 where
  pub apart : v.role ≢ roles.Joined

-- the caller has put one more item
abbrev pub after_put : PassView → Item → PassView
after_put v (item.Window w) = record v { put = v.put ++ w ∷ []; puts = v.puts + 1 }
after_put v item.EndMark = record v { puts = v.puts + 1 }

-- a pass has taken one more item
abbrev pub after_take : PassView → Item → PassView
after_take v (item.Window w) = record v { taken = v.taken ++ w ∷ [] }
after_take v item.EndMark = record v { marks_taken = v.marks_taken + 1 }

-- the caller has put so many more end marks
abbrev pub with_marks : PassView → ℕ → PassView
with_marks v n = record v { puts = v.puts + n }

-- so many more stages are split off the caller
abbrev pub with_stages : PassView → ℕ → PassView
with_stages v n = record v { stages = v.stages + n }

-- a stage is joined: what it took goes to the caller's list and count
abbrev pub joined_view : PassView → PassView → PassView
joined_view v stage = record v { stages = v.stages - 1; taken = v.taken ++ stage.taken; marks_taken = v.marks_taken + stage.marks_taken }

-- how many items a pass took
abbrev pub items_taken : PassView → ℕ
items_taken v = length v.taken + v.marks_taken

-- windows are put in the order of their numbers, and none behind an end mark
abbrev pub IsNext : PassView → Item → Type 0
IsNext v (item.Window w) = (w.number ≡ length v.put) × (v.puts ≡ length v.put)
IsNext v item.EndMark = Unit {0}

-- a window is the one that stands under its number in a list
abbrev pub IsOneOf : List Window → Window → Type 0
IsOneOf put w = get_elem? put w.number ≡ some w

-- each window that the caller took is the one that it put under its number, and it took no more than it put
pub record IsSettled (v : PassView) : Type 0 where
  pub one : All (IsOneOf v.put) v.taken
  pub most : items_taken v ≤ v.puts
