-- An input is read part by part.
use Rattle.std.proofs.Common.{◌≡◌, ℕ, false, List, ◌++◌, length, sym, ◌∙◌, ap}
use Rattle.std.specs.Prelude.{flat_map}
use Rattle.std.proofs.lemmas.List.{take-append-drop, length-take-le}
use Rattle.load_options.specs.declared.options.Options.{Options}
use Rattle.csv_sniffer.specs.declared.found.Sniffed.{Sniffed}
use Rattle.csv_sniffer.specs.Input.{found, data_place}
use Rattle.csv_sniffer.specs.Pairs.{parts_pair}
use Rattle.csv_sniffer.proofs.DataPlaceLaws.{data_part_no_pair}
use Rattle.csv_sniffer.proofs.FoundPlaces.{place_within, own_place}
use Rattle.part_cuts.specs.declared.part.Part.{Part}
use Rattle.loader_reply.specs.Reading.{reading, schema_of, verdicts, table_rows, faults}
use Rattle.table_laws.specs.PartLaws.{part_bytes, part_verdicts, head_of, data_of, rule_of, input_parts, lines_before, bytes_before, InputsAreReadByParts}
use Rattle.table_laws.proofs.PartReadings.{parts_are_read_alone}
use Rattle.table_laws.proofs.PartSums.{rows_of_all, faults_of_all}

module _ (o : Options) (input : List ℕ) where
  abbrev s : Sniffed
  s = found o input

  abbrev n : ℕ
  n = data_place o input (found o input)

  pub halves : head_of o input ++ data_of o input ≡ input
  halves = take-append-drop n input

  pub head_long : length (head_of o input) ≡ n
  head_long = length-take-le n input (place_within o input)

  pub no_pair : parts_pair (head_of o input ++ data_of o input) (length (head_of o input)) ≡ false
  no_pair = (λ i. parts_pair (halves i) (head_long i)) ∙ ap (parts_pair input) (sym (own_place o input)) ∙ data_part_no_pair o s input

  pub read_by_parts : (size : ℕ) → reading o input ≡ flat_map (part_verdicts 0 s.dialect (schema_of o s) (head_of o input) input) (input_parts o input size)
  read_by_parts size =
      (λ i. verdicts 0 s.dialect (schema_of o s) (sym halves i) (sym head_long i))
      ∙ parts_are_read_alone 0 (rule_of s size) (schema_of o s) (head_of o input) (data_of o input) no_pair
      ∙ (λ i. flat_map (part_verdicts 0 s.dialect (schema_of o s) (head_of o input) (halves i)) (input_parts o input size))

pub inputs_are_read_by_parts : InputsAreReadByParts
inputs_are_read_by_parts o input size =
    let t : Sniffed = found o input in
    let head : List ℕ = head_of o input in
    let read = λ (part : Part). verdicts 0 t.dialect (schema_of o t) (head ++ part_bytes input part) (length head) in
    let ps : List Part = input_parts o input size in
    record {
      rows = ap table_rows (read_by_parts o input size) ∙ rows_of_all (lines_before head) (bytes_before head) read ps;
      faults = ap faults (read_by_parts o input size) ∙ faults_of_all (lines_before head) (bytes_before head) read ps;
    }
