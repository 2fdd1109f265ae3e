-- The columns of texts among others, and the pairs that a row of them has.
use Rattle.std.specs.Prelude.{ℕ, ◌+◌, ◌≤◌, List, [], ◌∷◌, ◌++◌, length}
use Rattle.std.specs.List.{slice_index_or}
use Rattle.value_types.specs.Datum.{null, text}
use Rattle.value_types.specs.declared.views.ColumnView.{ColumnView}
use Rattle.value_types.specs.declared.views.ColumnView.TheVariants as views
use Rattle.value_types.specs.Marked.{marked}
use Rattle.column_taps.specs.declared.text_columns.TextColumn.{TextColumn}
use Rattle.column_taps.specs.Pairs.{Pair, pairs_and_cell}

-- a column of this number, where it is one of texts
abbrev pub as_texts : ℕ → ColumnView → List TextColumn
as_texts place (views.Boolean nulls column) = []
as_texts place (views.Bigint column) = []
as_texts place (views.Date nulls column) = []
as_texts place (views.Time nulls column) = []
as_texts place (views.Timestamp nulls column) = []
as_texts place (views.Varchar nulls texts) = record { place = place; nulls = nulls; texts = texts } ∷ []

-- those of columns that are numbered from a number on
abbrev pub texts_among : ℕ → List ColumnView → List TextColumn
texts_among place [] = []
texts_among place (column ∷ columns) = as_texts place column ++ texts_among (place + 1) columns

-- so many texts at least
abbrev pub HasTexts : ℕ → TextColumn → Type 0
HasTexts count column = count ≤ length column.texts.now

-- the pairs with those that a row has in these columns
abbrev pub pairs_with_texts : ℕ → List Pair → List TextColumn → List Pair
pairs_with_texts row pairs [] = pairs
pairs_with_texts row pairs (column ∷ columns) =
    pairs_with_texts row (pairs_and_cell column.place pairs (slice_index_or (marked text column.nulls.now column.texts.now) row null)) columns
