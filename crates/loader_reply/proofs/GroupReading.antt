-- The reading of an input by the groups of its data.
use Rattle.std.proofs.Common.{◌≡◌, ℕ, ◌+◌, ◌<◌, true, false, List, ◌++◌, map, length, take, drop, sym, ◌∙◌, ap, subst}
use Rattle.std.specs.Prelude.{None, option_map, slice_get}
use Rattle.std.proofs.lemmas.Option.{slice_get-map}
use Rattle.std.proofs.lemmas.List.{map-append}
use Rattle.byte_classes.specs.LineEnds.{line_ends}
use Rattle.byte_classes.specs.Dialect.{Marks}
use Rattle.value_types.specs.Datum.{Datum}
use Rattle.load_options.specs.declared.options.Options.{Options}
use Rattle.csv_sniffer.specs.declared.found.Sniffed.{Sniffed}
use Rattle.csv_sniffer.specs.Input.{place_under}
use Rattle.csv_sniffer.proofs.DataPlaceLaws.{data_part_no_pair}
use Rattle.reject_book.specs.declared.reject.Reject.{Reject}
use Rattle.reject_book.specs.declared.reject.Schema.{Schema}
use Rattle.reject_book.specs.Judging.{judge_of}
use Rattle.reject_book.specs.Kept.{raised}
use Rattle.reject_book.specs.Verdict.{Verdict}
use Rattle.reject_book.proofs.RaisedLines.{all_raised_twice}
use Rattle.range_scan.specs.Part.{Part, join, is_bad}
use Rattle.range_scan.proofs.JudgeLaws.{rows_are_judged_alike}
use Rattle.load_crew.specs.GroupPlan.{group_read}
use Rattle.load_crew.specs.Groups.{shared_groups, group_of, groups_read, groups_part}
use Rattle.load_crew.specs.Laws.{IsReadOn}
use Rattle.load_crew.proofs.GroupsLaws.{all_groups, groups_join, next_group_joins}
use Rattle.loader_reply.specs.Reading.{schema_of, file_reading, faults}
use Rattle.loader_reply.specs.Laws.{data_part, AreOfPart}
use Rattle.loader_reply.proofs.ReadingLaws.{verdicts_are_of_part}

pub reading_is_of_part : (o : Options) (s : Sniffed) (file_id : ℕ) (input : List ℕ) →
    AreOfPart (file_reading o s file_id input) (line_ends None (take (place_under o s input) input)) (data_part file_id s.dialect (schema_of o s) input (place_under o s input))
reading_is_of_part o s file_id input = verdicts_are_of_part file_id s.dialect (schema_of o s) input (place_under o s input) (data_part_no_pair o s input)

module _ (file_id : ℕ) (d : Marks) (schema : Schema) (input : List ℕ) (start size : ℕ) (some : 0 < size) (vs : List (Verdict (List Datum) Reject)) (lines : ℕ) (of : AreOfPart vs lines (data_part file_id d schema input start)) where
  abbrev bytes : List ℕ
  bytes = drop start input

  -- all groups of the data
  pub of_groups : AreOfPart vs lines (groups_read (judge_of d schema 0 file_id) raised d bytes start size false (shared_groups (length bytes) size))
  of_groups = subst (AreOfPart vs lines)
      (sym (groups_join (judge_of d schema 0 file_id) d bytes start size some raised (rows_are_judged_alike d schema 0 file_id) (shared_groups (length bytes) size)
      ∙ all_groups (judge_of d schema 0 file_id) d bytes start size some)) of

  pub first_fault_found : (k : ℕ) (before read : Part (List Datum) Reject) → before ≡ groups_part (judge_of d schema 0 file_id) d bytes start size k →
      read ≡ group_read (judge_of d schema 0 file_id) raised d bytes start (group_of (length bytes) size k) before.end true → is_bad read ≡ true →
      slice_get (faults vs) 0 ≡ option_map (raised lines) (slice_get (join raised before read).faults 0)
  first_fault_found k before read is_before is_read bad =
      let on : IsReadOn true read (join raised before read) (groups_part (judge_of d schema 0 file_id) d bytes start size (k + 1)) (data_part file_id d schema input start) =
      next_group_joins (judge_of d schema 0 file_id) d bytes start size some raised (rows_are_judged_alike d schema 0 file_id) k before read true is_before is_read in
      ap (λ fs. slice_get fs 0) of.faults
      ∙ slice_get-map (raised lines) (data_part file_id d schema input start).faults 0
      ∙ ap (option_map (raised lines)) (sym (on.first_fault bad))

pub joined_faults_are_raised : (lines : ℕ) (a b : Part (List Datum) Reject) →
    map (raised lines) (join raised a b).faults ≡ map (raised lines) a.faults ++ map (raised (lines + a.line_ends)) b.faults
joined_faults_are_raised lines a b =
    map-append (raised lines) a.faults (map (raised a.line_ends) b.faults)
    ∙ ap (λ r. map (raised lines) a.faults ++ r) (all_raised_twice lines a.line_ends b.faults)
