-- The cells of rows depend neither on the names of columns nor on the number of the file.
use Rattle.std.proofs.Common.{◌≡◌, ℕ, ◌+◌, List, [], ◌∷◌, ◌++◌, map, drop, refl}
use Rattle.std.specs.Prelude.{flat_map}
use Rattle.byte_classes.specs.Dialect.{Marks}
use Rattle.quote_automaton.specs.declared.state.State.TheVariants.{RowStart}
use Rattle.quote_automaton.specs.Rows.{row_starts, row_at}
use Rattle.reject_book.specs.declared.reject.Schema.{Schema}
use Rattle.reject_book.specs.Verdict.{cells_of}
use Rattle.reject_book.proofs.AlikeVerdicts.{cells_of_row}
use Rattle.loader_reply.specs.Reading.{place_of_row, verdict_at, verdicts, table_rows}

module _ (d : Marks) (schema : Schema) (names : List (List ℕ)) (file_id other : ℕ) (input : List ℕ) (start : ℕ) where
  at_places : (ks : List ℕ) → flat_map cells_of (map (verdict_at other d (record schema { names = names }) input start) ks) ≡ flat_map cells_of (map (verdict_at file_id d schema input start) ks)
  at_places [] = refl
  at_places (k ∷ ks) = λ i. cells_of_row d schema names (place_of_row file_id input (start + k)) (place_of_row other input (start + k)) (row_at d RowStart (drop start input) k) i ++ at_places ks i

  -- the rows of the table of a file of another number, under other names
  pub rows_alike : table_rows (verdicts other d (record schema { names = names }) input start) ≡ table_rows (verdicts file_id d schema input start)
  rows_alike = at_places (row_starts d RowStart (drop start input))
