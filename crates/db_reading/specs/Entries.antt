-- Rows as a reader of the format finds them under the root of a tree.
use Rattle.std.specs.Prelude.{ℕ, ◌+◌, true, List, [], ◌∷◌}
use Rattle.sqlite_format.specs.Cell.{flip_sign}
use Rattle.sqlite_btree.specs.Chain.{Entry}

-- a row by its rowid and its record
abbrev pub row_entry : ℕ → List ℕ → Entry
row_entry rowid row = record { row = true; key = flip_sign rowid; payload = row }

-- rows by their records, with the rowids from a number on
abbrev pub row_entries : ℕ → List (List ℕ) → List Entry
row_entries rowid [] = []
row_entries rowid (row ∷ rows) = row_entry rowid row ∷ row_entries (rowid + 1) rows
