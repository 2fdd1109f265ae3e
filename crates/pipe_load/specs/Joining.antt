-- What is joined so far: the ranges of the data up to a place, each in its true state (Ge et al. 2019).
use Rattle.std.specs.Prelude.{◌≡◌, ℕ, ◌+◌, ◌*◌, ◌<◌, min, map, List, length}
use Rattle.std.specs.List.{range_with_len}
use Rattle.range_guess.specs.Cut.{range_count}
use Rattle.range_scan.specs.declared.context.Context.{Context}
use Rattle.range_scan.specs.declared.joined.Joined.{Joined}
use Rattle.range_scan.specs.Ranges.{IsJoinedTo}
use Rattle.range_scan.specs.Scanned.{Scanned}
use Rattle.pipe_load.specs.declared.layout.Layout.{Layout}
use Rattle.pipe_load.specs.declared.window.Window.{Window}
use Rattle.pipe_load.specs.Layout.{stride, window_of, windows_of}
use Rattle.pipe_load.specs.Scanning.{guessed_part}

-- n ranges of a window are joined: of window k of a round of any data whose ranges before this window were joined, these and n more are joined
pub record AddsRanges (context : Context) (l : Layout) (w : Window) (n : ℕ) (old new : Joined) : Type 0 where
  pub types : new.table.types ≡ context.schema.types
  pub keep : new.book.keep ≡ context.keep
  pub joins : (text : List ℕ) (k : ℕ) → w ≡ window_of l text k → (l.before + k) * stride l < length text → l.reach ≡ context.schema.max_line_size + 1 →
      IsJoinedTo context text l.data_start l.range_size ((l.before + k) * l.ranges) old → IsJoinedTo context text l.data_start l.range_size ((l.before + k) * l.ranges + n) new

-- how many ranges the first n windows of a round end, with those before the round: all, where the data end before
abbrev pub ranges_before : Layout → List ℕ → ℕ → ℕ
ranges_before l text n = min ((l.before + n) * l.ranges) (range_count (length text) l.range_size)

-- n windows of a round are joined behind those before it, whatever the data are
pub record AddsWindows (context : Context) (l : Layout) (made : List Window) (count n : ℕ) (old new : Joined) : Type 0 where
  pub types : new.table.types ≡ context.schema.types
  pub keep : new.book.keep ≡ context.keep
  pub joins : (text : List ℕ) → made ≡ windows_of l text count → ((k : ℕ) → k < count → (l.before + k) * stride l < length text) →
      IsJoinedTo context text l.data_start l.range_size (ranges_before l text 0) old → IsJoinedTo context text l.data_start l.range_size (ranges_before l text n) new

-- parts of ranges of a window from range n on, each in its guess
abbrev pub GuessedFrom : Context → Layout → Window → ℕ → List Scanned → Type 0
GuessedFrom context l w n parts = parts ≡ map (guessed_part context l w) (range_with_len n (length parts))
