-- What a reading does to a source and to the window that it fills, whatever it answers.
use Rattle.std.specs.Prelude.{◌≡◌, ℕ, ◌+◌, ◌≤◌, true, List, Option, Some, None, Result, Ok, Err}
use Rattle.std.specs.Io.KnownBytes.{IsAtEnd}
use Rattle.csv_source.specs.Causes.{Rose}
use Rattle.window_load.specs.declared.stop.LoadStop.{LoadStop}
use Rattle.window_load.specs.declared.stop.LoadStop.TheVariants as stops
use Rattle.window_load.specs.Window.{WindowView, reach, ReachesOn}

-- why a reading ended early, where it did
abbrev pub stop_in : {A : Type 0} → Result A LoadStop → Option LoadStop
stop_in (Ok a) = None
stop_in (Err stop) = Some stop

-- some bytes came as the window reached further, and the rest is left; the source holds what it held; it failed only where its faults
-- rose, which never fall; and the input is too large only where the window reaches one byte over its limit
pub record Reads {Held : Type 0} (left_before left_after : Option (List ℕ)) (held_before held_after : Held) (faults_before faults_after : ℕ) (old new : WindowView) (stop : Option LoadStop) : Type 0 where
  pub moved : ReachesOn left_before left_after old new
  pub at_end : new.ended ≡ true → IsAtEnd left_after
  pub held : held_after ≡ held_before
  pub count : faults_before ≤ faults_after
  pub too_large : stop ≡ Some stops.TooLarge → reach new ≡ new.most + 1
  pub failed : stop ≡ Some stops.Failed → Rose faults_before faults_after
