-- How the ranges of windows are scanned first, and what a stage keeps.
use Rattle.std.specs.Prelude.{◌≡◌, ℕ, ◌+◌, ◌<◌, ◌⊎◌, ◌==◌, if◌then◌else◌, false, slice_index_or, List, [], ◌∷◌, ◌++◌, length, map, All}
use Rattle.std.specs.List.{range_with_len}
use Rattle.byte_classes.specs.Dialect.{Marks}
use Rattle.quote_automaton.specs.declared.state.State.{State}
use Rattle.quote_automaton.specs.declared.state.State.TheVariants.{RowStart}
use Rattle.range_guess.specs.declared.span.Span.{Span}
use Rattle.range_guess.specs.Span.{guess_of}
use Rattle.range_guess.specs.Stretch.{span_of}
use Rattle.range_scan.specs.declared.context.Context.{Context}
use Rattle.range_scan.specs.Scanned.{Scanned, scanned}
use Rattle.crossbeam_queue.specs.Passes.{view, IsPassOf}
use Rattle.pipe_load.specs.declared.layout.Layout.{Layout}
use Rattle.pipe_load.specs.declared.pass_view.Role.TheVariants as roles
use Rattle.pipe_load.specs.declared.scanner.Kept.{Kept}
use Rattle.pipe_load.specs.declared.stage.Stage.{Stage}
use Rattle.pipe_load.specs.declared.stage.Took.{Took}
use Rattle.pipe_load.specs.declared.stage.Took.TheVariants as took
use Rattle.pipe_load.specs.declared.window.Item.TheVariants as item
use Rattle.pipe_load.specs.declared.window.Window.{Window}
use Rattle.pipe_load.specs.declared.windows.Windows.{Windows}
use Rattle.pipe_load.specs.Layout.{base_of, stretch_of, stretch_len}
use Rattle.pipe_load.specs.PassViews.{after_take}
use Rattle.pipe_load.specs.Rule.{WasEmpty}

-- the state in which a range is scanned first: the data's first range opens where a row begins, any other in its guess
abbrev pub opening_of : Marks → List ℕ → Span → State
opening_of d bytes span = if span.number == 0 then RowStart else guess_of d bytes span

-- range i of a window, scanned in that state, and the first n ranges
abbrev pub guessed_part : Context → Layout → Window → ℕ → Scanned
guessed_part context l w i = let span = span_of (stretch_of l w) i in scanned context w.bytes (base_of l w) span (opening_of context.dialect w.bytes span)

abbrev pub guessed_parts : Context → Layout → Window → ℕ → List Scanned
guessed_parts context l w n = map (guessed_part context l w) (range_with_len 0 n)

-- a window stands with the parts of its first ranges
pub record HasParts (context : Context) (l : Layout) (kept : Kept) : Type 0 where
  pub is : kept.parts.items ≡ guessed_parts context l kept.window (length kept.parts.items)

-- a window stands with the parts of all its ranges
pub record IsScanned (context : Context) (l : Layout) (kept : Kept) : Type 0 where
  pub is : kept.parts.items ≡ guessed_parts context l kept.window (stretch_len l kept.window)

-- a stage has a pass of its own
pub record IsStage (windows : Windows) (stage : Stage) : Type 0 where
  pub of : IsPassOf windows.line stage.pass
  pub role : (view stage.pass).role ≡ roles.Stage

-- a stage keeps all windows that it took, with the parts of all their ranges
pub record HasScanned (context : Context) (l : Layout) (stage : Stage) : Type 0 where
  pub all : map (λ (k : Kept). k.window) stage.kept.items ≡ (view stage.pass).taken
  pub parts : All (IsScanned context l) stage.kept.items

-- ---- one look of a stage

-- a window was taken that is kept scanned, behind those that were kept; or an end mark; or there was nothing, where by what the stage knows the queue can have been empty
abbrev pub Takes : Context → Layout → Stage → Stage → Took → Type 0
Takes context l old new took.Window = (kept : Kept) × IsScanned context l kept
    × (view new.pass ≡ after_take (view old.pass) (item.Window kept.window)) × (new.kept.items ≡ old.kept.items ++ kept ∷ [])
Takes context l old new took.EndMark = (view new.pass ≡ after_take (view old.pass) item.EndMark) × (new.kept.items ≡ old.kept.items)
Takes context l old new took.Nothing = WasEmpty (view old.pass) × (view new.pass ≡ view old.pass) × (new.kept.items ≡ old.kept.items)

-- ---- all looks of a stage

-- it took one more end mark, or by what it knows the queue can have been empty
abbrev pub HasEnded : Stage → Stage → Type 0
HasEnded old new = ((view new.pass).marks_taken ≡ (view old.pass).marks_taken + 1) ⊎ WasEmpty (view new.pass)

-- ---- all stages

-- some stages, before they work: each has scanned what it took
pub record AreStages (windows : Windows) (context : Context) (l : Layout) (ss : List Stage) : Type 0 where
  pub some : 0 < length ss
  pub stages : All (IsStage windows) ss
  pub all : All (HasScanned context l) ss

-- once they worked: each that met no want of memory has scanned what it took, to an end mark or to an empty queue
pub record HaveWorked (windows : Windows) (context : Context) (l : Layout) (old new : List Stage) : Type 0 where
  pub stages : All (IsStage windows) new
  pub all : All (λ stage. stage.short ≡ false → HasScanned context l stage) new
  pub ended : (k : ℕ) (d : Stage) → k < length old → (slice_index_or new k d).short ≡ false → HasEnded (slice_index_or old k d) (slice_index_or new k d)
