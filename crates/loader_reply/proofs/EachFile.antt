-- The rows of several files are those of each, loaded with what was found in one of them given.
use Rattle.std.proofs.Common.{◌≡◌, ℕ, ◌+◌, true, List, [], ◌∷◌, ◌++◌, refl, sym, ◌∙◌}
use Rattle.std.specs.Prelude.{flat_map}
use Rattle.load_options.specs.declared.options.Options.{Options}
use Rattle.load_options.specs.Accepted.{IsAccepted}
use Rattle.reject_book.specs.declared.reject.Schema.{Schema}
use Rattle.value_types.specs.declared.types.ColumnType.{ColumnType}
use Rattle.csv_sniffer.specs.Fixed.{fixed, fixes_types}
use Rattle.csv_sniffer.specs.Input.{found, place_under}
use Rattle.csv_sniffer.specs.Laws.{IsFoundAlike}
use Rattle.csv_sniffer.specs.declared.found.Sniffed.{Sniffed}
use Rattle.csv_sniffer.proofs.FixedInputs.{fixed_is_found_in_all}
use Rattle.loader_reply.specs.Batch.{readings_from}
use Rattle.loader_reply.specs.Laws.{RowsAreOfEach}
use Rattle.loader_reply.specs.Reading.{schema_of, verdicts, reading, file_reading, table_rows}
use Rattle.loader_reply.proofs.SameCells.{rows_alike}

module _ (o : Options) (first : List ℕ) (accepted : IsAccepted o) (fixes : fixes_types o (found o first) ≡ true) where
  abbrev s : Sniffed
  s = found o first

  abbrev again : Options
  again = fixed o s

  -- one file
  of_one : (file_id : ℕ) (input : List ℕ) → table_rows (file_reading o s file_id input) ≡ table_rows (reading again input)
  of_one file_id input =
      let t : Sniffed = found again input in
      let alike : IsFoundAlike o s t input = fixed_is_found_in_all o first input accepted in
      let typed : t.types ≡ s.types = alike.types fixes in
      let schema : List ColumnType → Schema = λ tys. record (schema_of o t) { types = tys } in
      sym ((λ i. table_rows (verdicts 0 (alike.dialect i) (schema (typed i)) input (alike.place i)))
      ∙ rows_alike s.dialect (schema_of o s) t.names file_id 0 input (place_under o s input))

  pub of_each : (file_id : ℕ) (inputs : List (List ℕ)) → flat_map table_rows (readings_from o s file_id inputs) ≡ flat_map (λ input. table_rows (reading again input)) inputs
  of_each file_id [] = refl
  of_each file_id (input ∷ inputs) = λ i. of_one file_id input i ++ of_each (file_id + 1) inputs i

pub rows_are_of_each : RowsAreOfEach
rows_are_of_each o first names inputs accepted fixes = of_each o first accepted fixes 0 inputs
