-- Blocks of rows, whose lines are made at once.
use Rattle.std.specs.Prelude.{◌≡◌, ◌≤◌, ◌<◌, ◌+◌, ◌*◌, ℕ, true, List, All, length, min, slice_range, take}
use Rattle.std.specs.List.{concat}
use Rattle.text_pieces.specs.declared.block.Block.{Block}
use Rattle.text_pieces.specs.declared.round.Round.{Round}
use Rattle.text_pieces.specs.declared.desk.Desk.{Desk}
use Rattle.text_pieces.specs.declared.desks.Desks.{Desks}
use Rattle.text_pieces.specs.declared.rounds.Rounds.{Rounds}

-- the block has the lines of its rows, unless it isn't made
abbrev pub HasLines : List (List ℕ) → Block → Type 0
HasLines lines block = block.made ≡ true → block.text.text ≡ concat (slice_range lines block.from block.to)

-- the block has the lines of these rows
abbrev pub IsMadeOf : ℕ → ℕ → Block → Type 0
IsMadeOf from to block = (block.made ≡ true) × (block.from ≡ from) × (block.to ≡ to)

-- the round's rows are some of these, and some are made at once
abbrev pub IsRound : List (List ℕ) → Round → Type 0
IsRound lines round = (round.from ≤ round.to) × (round.to ≤ length lines) × (0 < round.at_once)

-- these are the rows of one of the blocks that the round is cut into: they begin behind a number of whole blocks, and are as many
-- as are made at once, or all that are left
pub record IsCut (round : Round) (from to : ℕ) : Type 0 where
  pub number : ℕ
  pub begins : from ≡ round.from + number * round.at_once
  pub within : from < round.to
  pub ends : to ≡ min (from + round.at_once) round.to

-- each block that the desk used has the lines of its rows
abbrev pub HasWork : List (List ℕ) → Desk → Type 0
HasWork lines desk = (desk.used ≤ length desk.blocks.items) × All (HasLines lines) (take desk.used desk.blocks.items)

-- each block that the desk used is one of those that the round is cut into
abbrev pub IsDrawn : Round → Desk → Type 0
IsDrawn round desk = All (λ block. IsCut round block.from block.to) (take desk.used desk.blocks.items)

-- the same at each desk
abbrev pub AreDesks : List (List ℕ) → Desks → Type 0
AreDesks lines desks = HasWork lines desks.own × All (HasWork lines) desks.others.items

abbrev pub AreDrawn : Desks → Type 0
AreDrawn desks = IsDrawn desks.round desks.own × All (IsDrawn desks.round) desks.others.items

-- no block has the lines of these rows
abbrev pub HasNone : ℕ → ℕ → Desk → Type 0
HasNone from to desk = All (λ block. ¬ IsMadeOf from to block) (take desk.used desk.blocks.items)

abbrev pub HaveNone : ℕ → ℕ → Desks → Type 0
HaveNone from to desks = HasNone from to desks.own × All (HasNone from to) desks.others.items

-- nothing is made yet
abbrev pub IsIdle : Desk → Type 0
IsIdle desk = desk.used ≡ 0

abbrev pub AreIdle : Desks → Type 0
AreIdle desks = IsIdle desks.own × All IsIdle desks.others.items

-- each round takes some rows, and nothing is made yet
abbrev pub IsReady : Rounds → Type 0
IsReady rounds = (0 < rounds.at_once) × AreIdle rounds.ready × AreIdle rounds.making
