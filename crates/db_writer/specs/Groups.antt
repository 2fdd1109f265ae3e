-- Groups of rows that workers write, each of whole blocks but for the last rows.
use Rattle.std.specs.Prelude.{◌≡◌, ◌≤◌, ◌+◌, ◌%◌, ◌⊎◌, ℕ, List, [], ◌∷◌, length, slice_range, IfSome, None}
use Rattle.value_types.specs.Datum.{Datum}
use Rattle.db_pages.specs.Grown.{filled}
use Rattle.db_writer.specs.declared.groups.Group.{Group}
use Rattle.db_writer.specs.Written.{records_of}

-- groups of rows, the first from `from` on, each from where the one before ends, and the last up to `to`; one that doesn't begin a block has no row
abbrev pub AreBlocks : ℕ → List Group → ℕ → Type 0
AreBlocks from [] to = from ≡ to
AreBlocks from (group ∷ groups) to = (group.from ≡ from) × (from ≤ group.to) × ((from % 8192 ≡ 0) ⊎ (from ≡ group.to)) × AreBlocks group.to groups to

-- a group of so many rows that isn't written
pub record IsUnwritten (count : ℕ) (group : Group) : Type 0 where
  pub ordered : group.from ≤ group.to
  pub within : group.to ≤ count
  pub leaves : group.leaves ≡ None

-- a group of these rows, whose leaves are those of its own behind its own pages, where they are written
pub record HoldsRows (rows : List (List Datum)) (group : Group) : Type 0 where
  pub ordered : group.from ≤ group.to
  pub within : group.to ≤ length rows
  pub leaves : IfSome group.leaves (λ leaves. leaves ≡ filled group.base (group.from + 1) (records_of (slice_range rows group.from group.to)))

-- the same group, with its leaves unless memory was wanting
pub record WritesGroup (rows : List (List Datum)) (old new : Group) : Type 0 where
  pub from : new.from ≡ old.from
  pub to : new.to ≡ old.to
  pub holds : HoldsRows rows new
