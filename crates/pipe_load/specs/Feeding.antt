-- What the caller has of the queue while it reads.
use Rattle.std.specs.Prelude.{◌≡◌, ℕ, ◌+◌, ◌<◌, ◌≤◌, ◌⊎◌, true, List, [], ◌++◌, length, slice_index_or, Option}
use Rattle.std.specs.Io.KnownBytes.{IsAtEnd}
use Rattle.crossbeam_queue.specs.Passes.{Pass, view, IsPassOf}
use Rattle.pipe_load.specs.declared.feeding.Feed.{Feed}
use Rattle.pipe_load.specs.declared.layout.Layout.{Layout}
use Rattle.pipe_load.specs.declared.reader.Reader.{Reader}
use Rattle.pipe_load.specs.declared.window.Window.{Window}
use Rattle.pipe_load.specs.declared.windows.Windows.{Windows}
use Rattle.pipe_load.specs.declared.pass_view.PassView.{PassView}
use Rattle.pipe_load.specs.declared.pass_view.Role.TheVariants as roles
use Rattle.pipe_load.specs.declared.window.Item.{Item}
use Rattle.pipe_load.specs.Layout.{IsLayout, round_len}
use Rattle.pipe_load.specs.Rule.{WasFull}

-- each window stands at the place of its number
abbrev pub AreNumbered : List Window → Type 0
AreNumbered ws = (k : ℕ) (d : Window) → k < length ws → (slice_index_or ws k d).number ≡ k

-- the caller's pass, which took nothing, and off which so many stages are split
pub record IsCallers (windows : Windows) (count : ℕ) (pass : Pass Item PassView) : Type 0 where
  pub of : IsPassOf windows.line pass
  pub caller : (view pass).role ≡ roles.Caller
  pub taken : (view pass).taken ≡ []
  pub stages : (view pass).stages ≡ count

-- the windows that were put and those that wait
abbrev pub made_of : Feed → List Window
made_of feed = (view feed.pass).put ++ feed.waiting.items

-- no end mark is put, and the windows that were put and those that wait are numbered
pub record IsFeed (windows : Windows) (stages : ℕ) (feed : Feed) : Type 0 where
  pub pass : IsCallers windows stages feed.pass
  pub puts : (view feed.pass).puts ≡ length (view feed.pass).put
  pub numbered : AreNumbered (made_of feed)

-- windows wait only where the queue was full at a moment
abbrev pub WaitsForRoom : Feed → Type 0
WaitsForRoom feed = 0 < length feed.waiting.items → WasFull (view feed.pass)

-- all windows were put, and behind them so many end marks
abbrev pub IsWhole : ℕ → Feed → Type 0
IsWhole marks feed = (feed.waiting.items ≡ []) × ((view feed.pass).puts ≡ length (view feed.pass).put + marks)

-- the same, or the queue was full at a moment
abbrev pub IsFed : ℕ → Feed → Type 0
IsFed marks feed = IsWhole marks feed ⊎ WasFull (view feed.pass)

-- ---- a round

-- before it is read: no window of it is cut or made
pub record BeginsRound (windows : Windows) (left : Option (List ℕ)) (r : Reader) (f : Feed) : Type 0 where
  pub feed : IsFeed windows (view f.pass).stages f
  pub none : made_of f ≡ []
  pub layout : IsLayout r.layout
  pub start : r.number ≡ 0
  pub at_end : r.window.ended ≡ true → IsAtEnd left

-- once it was read, whatever that answered: the windows that were made are numbered, and no more than a round has; all were put, and
-- end marks behind them, or the queue was full at a moment
pub record HasFed (windows : Windows) (stages marks : ℕ) (l : Layout) (f : Feed) : Type 0 where
  pub pass : IsCallers windows stages f.pass
  pub fed : IsFed marks f
  pub numbered : AreNumbered (made_of f)
  pub few : length (made_of f) ≤ round_len l
