-- How windows lie in the data, and their ranges in them.
use Rattle.std.specs.Prelude.{ℕ, ◌+◌, ◌-◌, ◌*◌, ◌/◌, ◌<◌, ◌≤◌, ◌^◌, min, List, length, map, slice_range}
use Rattle.std.specs.List.{range_with_len}
use Rattle.load_options.specs.declared.limits.TheConstants.{RANGE_SIZE}
use Rattle.range_guess.specs.declared.stretch.Stretch.{Stretch}
use Rattle.range_guess.specs.Stretch.{LiesIn, stretch_count}
use Rattle.pipe_load.specs.declared.layout.Layout.{Layout}
use Rattle.pipe_load.specs.declared.layout.TheConstants.{LEAST_RANGES, LEAST_WINDOWS, ROUND_BYTES}
use Rattle.pipe_load.specs.declared.window.Window.{Window}

-- windows cover a few ranges and as many more as go into two rows of the most bytes, and reach one byte further than a row may past them
abbrev pub layout_of : ℕ → ℕ → ℕ → Layout
layout_of data_start range_size most_line = record {
  data_start = data_start;
  range_size = range_size;
  ranges = 2 * most_line / range_size + LEAST_RANGES;
  reach = most_line + 1;
  before = 0;
}

-- a layout of some ranges, whose numbers are small
pub record IsLayout (l : Layout) : Type 0 where
  pub some : 0 < l.range_size
  pub ranges : 0 < l.ranges
  pub start : l.data_start ≤ 2 ^ 32
  pub size : l.range_size ≤ RANGE_SIZE.most
  pub few : l.ranges ≤ 2 ^ 24
  pub short : l.ranges * l.range_size ≤ 2 ^ 33
  pub far : l.reach ≤ 2 ^ 23
  pub early : l.before ≤ 2 ^ 40

-- how many bytes the ranges of a window have
abbrev pub stride : Layout → ℕ
stride l = l.ranges * l.range_size

-- the windows behind the first n of a round are numbered anew
abbrev pub turned : Layout → ℕ → Layout
turned l n = record l { before = l.before + n }

-- how many windows a round has at most
abbrev pub round_len : Layout → ℕ
round_len l = ROUND_BYTES / stride l + LEAST_WINDOWS

-- where the bytes of a round's window begin in the data: one before its ranges, unless they begin the data
abbrev pub window_start : Layout → ℕ → ℕ
window_start l k = (l.before + k) * stride l - 1

-- how many bytes a window has before its ranges
abbrev pub lead : Layout → ℕ → ℕ
lead l k = min (l.before + k) 1

-- how many bytes a window has where the data go on far enough
abbrev pub want : Layout → ℕ → ℕ
want l k = lead l k + stride l + l.reach

-- window k of a round of the data, and the round's first n windows
abbrev pub window_of : Layout → List ℕ → ℕ → Window
window_of l text k = record { number = k; bytes = slice_range text (window_start l k) (window_start l k + want l k) }

abbrev pub windows_of : Layout → List ℕ → ℕ → List Window
windows_of l text n = map (window_of l text) (range_with_len 0 n)

-- the place of a window's first byte in the input
abbrev pub base_of : Layout → Window → ℕ
base_of l w = l.data_start + window_start l w.number

-- the ranges of a window
abbrev pub stretch_of : Layout → Window → Stretch
stretch_of l w = let from = min (length w.bytes) (min (l.before + w.number) 1) in record {
  first_range = (l.before + w.number) * l.ranges;
  from = from;
  to = from + min (stride l) (length w.bytes - from);
  range_size = l.range_size;
}

-- how many ranges that are
abbrev pub stretch_len : Layout → Window → ℕ
stretch_len l w = stretch_count (stretch_of l w)

-- a stretch lies in the bytes of a window, whose first stands at a place of the input, and its numbers are small
pub record IsStretchOf (base : ℕ) (s : Stretch) (bytes : List ℕ) : Type 0 where
  pub lies : LiesIn s bytes
  pub room : base + length bytes < 2 ^ 62
  pub numbers : s.first_range < 2 ^ 61
