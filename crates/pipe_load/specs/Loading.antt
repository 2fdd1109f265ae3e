-- What a pipelined load answers.
use Rattle.std.specs.Prelude.{◌≡◌, ℕ, ◌+◌, ◌≤◌, true, List, [], ◌++◌, length, Option}
use Rattle.std.specs.Io.KnownBytes.{Consumes, IsAtEnd}
use Rattle.range_scan.specs.declared.context.Context.{Context}
use Rattle.range_scan.specs.declared.joined.Joined.{Joined}
use Rattle.window_load.specs.declared.data_read.DataRead.{DataRead}
use Rattle.window_load.specs.DataRead.{IsDataRead}
use Rattle.window_load.specs.Window.{WindowView, reach}
use Rattle.pipe_load.specs.declared.layout.Layout.{Layout}
use Rattle.pipe_load.specs.declared.window.Window.{Window}
use Rattle.pipe_load.specs.Joining.{AddsWindows}
use Rattle.pipe_load.specs.Reading.{CutsOn}

-- windows reach one byte further past their ranges than a row may
abbrev pub HasReach : Context → Layout → Type 0
HasReach context l = l.reach ≡ context.schema.max_line_size + 1

-- a round is joined behind those before it: as `more` comes some windows are cut, and these are joined
pub record AddsRound (context : Context) (l : Layout) (before after : Option (List ℕ)) (number : ℕ) (held left : WindowView) (more : List ℕ) (old new : Joined) : Type 0 where
  pub made : List Window
  pub cuts : CutsOn l before after made number held left more
  pub adds : AddsWindows context l made number number old new

-- all data are read, those that a window held at first and then what came of the source; nothing is left, and the input keeps its limit
pub record IsAllRead (context : Context) (start range_size : ℕ) (head : WindowView) (before after : Option (List ℕ)) (came : List ℕ) (read : DataRead) : Type 0 where
  pub moved : Consumes before after came
  pub at_end : IsAtEnd after
  pub none : head.ended ≡ true → came ≡ []
  pub within : reach head + length came ≤ head.most
  pub is : IsDataRead context (head.kept ++ came) start range_size read
