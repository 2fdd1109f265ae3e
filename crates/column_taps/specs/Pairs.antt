-- The different texts of columns.
use Rattle.std.specs.Prelude.{ℕ, ◌+◌, List, [], ◌∷◌, ◌++◌, Bool, ◌&&◌, ◌==◌, if◌then◌else◌}
use Rattle.std.specs.List.{list_any}
use Rattle.std.specs.Str.{bytes_eq}
use Rattle.value_types.specs.Datum.{Datum, null, typed, text}

-- a column, by its number from 0, and one of its texts
pub record Pair : Type 0 where
  pub column : ℕ
  pub text : List ℕ

-- whether a pair is the one of a column, by its number from 0, and a text
abbrev pub is_pair : ℕ → List ℕ → Pair → Bool
is_pair column bytes pair = (column == pair.column) && bytes_eq bytes pair.text

-- the pairs with one more behind them, where it isn't there yet
abbrev pub pairs_and : List Pair → ℕ → List ℕ → List Pair
pairs_and pairs column bytes = if list_any (is_pair column bytes) pairs then pairs else pairs ++ record { column = column; text = bytes } ∷ []

-- the pairs with that of a cell: texts alone count, also empty ones
abbrev pub pairs_and_cell : ℕ → List Pair → Datum → List Pair
pairs_and_cell column pairs null = pairs
pairs_and_cell column pairs (typed value) = pairs
pairs_and_cell column pairs (text bytes) = pairs_and pairs column bytes

-- the pairs with those of a row's cells, whose columns are numbered from a number on
abbrev pub pairs_with : ℕ → List Pair → List Datum → List Pair
pairs_with column pairs [] = pairs
pairs_with column pairs (cell ∷ cells) = pairs_with (column + 1) (pairs_and_cell column pairs cell) cells
