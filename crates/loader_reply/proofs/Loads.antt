-- The reading of the data, against what the input comes to.
use Rattle.std.proofs.Common.{◌≡◌, ℕ, ◌+◌, Bool, true, false, ◌||◌, cond, List, [], map, take, drop, None, Some, refl, sym, ap, ◌∙◌, subst}
use Rattle.std.specs.Prelude.{not, slice_get, option_map}
use Rattle.std.proofs.lemmas.Option.{slice_get-map}
use Rattle.byte_classes.specs.LineEnds.{line_ends}
use Rattle.load_options.specs.declared.options.Options.{Options}
use Rattle.csv_sniffer.specs.declared.found.Sniffed.{Sniffed}
use Rattle.csv_sniffer.specs.Input.{place_under}
use Rattle.reject_book.specs.declared.reject.Reject.{Reject}
use Rattle.reject_book.specs.Kept.{book_of, joined, raised}
use Rattle.reject_book.proofs.KeptFronts.{joined_is_book}
use Rattle.range_scan.specs.declared.context.Context.{Context}
use Rattle.range_scan.specs.Scanned.{HasColumns}
use Rattle.window_load.specs.DataRead.{data_part as part_of_data, IsDataRead, IsWindowRead}
use Rattle.window_load.specs.declared.data_read.DataRead.{DataRead}
use Rattle.window_load.specs.declared.data_read.WindowRead.{WindowRead}
use Rattle.window_load.specs.declared.data_read.WindowRead.TheVariants.{All, Stopped}
use Rattle.loader_reply.specs.Laws.{AreOfPart, data_part}
use Rattle.loader_reply.specs.Loading.{IsFileLoad, KeepsAs, context_of, raised_data, stops_at_error}
use Rattle.loader_reply.specs.Reading.{schema_of, file_reading, faults, stats_of}
use Rattle.loader_reply.proofs.GroupReading.{reading_is_of_part}

-- ---- the first error

no_error : (b : Bool) (rejects : List Reject) → (not b ≡ true → rejects ≡ []) → cond b None (slice_get rejects 0) ≡ None
no_error true rejects none = refl
no_error false rejects none = ap (λ rs. slice_get rs 0) (none refl)

the_error : (b : Bool) (rejects : List Reject) (r : Reject) → not b ≡ true → slice_get rejects 0 ≡ Some r → cond b None (slice_get rejects 0) ≡ Some r
the_error true rejects r stops is = absurd (let wrong : ⊥ = cc in wrong)
the_error false rejects r stops is = is

-- ---- the columns

pub has_columns : (o : Options) (s : Sniffed) (file_id : ℕ) (context : Context) → HasColumns (schema_of o s) → context ≡ context_of o s file_id → HasColumns context.schema
has_columns o s file_id context columns is_context = subst (λ (c : Context). HasColumns c.schema) (sym is_context) columns

-- the rejects of what was read are kept as the context says
pub keeps_as : (context : Context) (text : List ℕ) (start size : ℕ) (stop : Bool) (read : WindowRead) → IsWindowRead context text start size stop read → KeepsAs context.keep read
keeps_as context text start size stop (All got) is = ap (λ b. b.keep) is.0.part.book
keeps_as context text start size stop (Stopped first) is = tt

-- ---- the verdicts of the input are those of the bytes that are read

of_place : (o : Options) (s : Sniffed) (file_id : ℕ) (input : List ℕ) (start : ℕ) → start ≡ place_under o s input →
    AreOfPart (file_reading o s file_id input) (line_ends None (take start input)) (data_part file_id s.dialect (schema_of o s) input start)
of_place o s file_id input start at =
    subst (λ n. AreOfPart (file_reading o s file_id input) (line_ends None (take n input)) (data_part file_id s.dialect (schema_of o s) input n)) (sym at) (reading_is_of_part o s file_id input)

module _ (o : Options) (s : Sniffed) (file_id : ℕ) (input : List ℕ) (start : ℕ) (context : Context) (size lines : ℕ) (stop : Bool) (at : start ≡ place_under o s input)
    (is_context : context ≡ context_of o s file_id) (is_size : size ≡ o.range_size) (is_stop : stop ≡ stops_at_error o) (is_lines : lines ≡ line_ends None (take start input)) where
  abbrev bytes : List ℕ
  bytes = drop start input

  of_data : AreOfPart (file_reading o s file_id input) lines (part_of_data context bytes start)
  of_data =
      subst (λ n. AreOfPart (file_reading o s file_id input) n (part_of_data context bytes start)) (sym is_lines)
      (subst (λ (c : Context). AreOfPart (file_reading o s file_id input) (line_ends None (take start input)) (part_of_data c bytes start)) (sym is_context)
      (of_place o s file_id input start at))

  pub first_error : (first : Reject) → IsWindowRead context bytes start size stop (Stopped first) → IsFileLoad o s file_id input (Stopped (raised lines first))
  first_error first read =
      the_error (o.ignore_errors || o.store_rejects) (faults (file_reading o s file_id input)) (raised lines first) (sym is_stop ∙ read.0)
      (ap (λ rs. slice_get rs 0) of_data.faults
      ∙ slice_get-map (raised lines) (part_of_data context bytes start).faults 0
      ∙ ap (option_map (raised lines)) read.1)

  pub whole_load : (read : DataRead) → IsWindowRead context bytes start size stop (All read) → IsFileLoad o s file_id input (All (raised_data context.keep lines read))
  whole_load read is_read = let got : IsDataRead context bytes start size read = is_read.0 in (
    no_error (o.ignore_errors || o.store_rejects) (faults (file_reading o s file_id input)) (λ stops. of_data.faults ∙ ap (map (raised lines)) (is_read.1 (is_stop ∙ stops))),
    record {
      types = got.part.types ∙ ap (λ (c : Context). c.schema.types) is_context;
      rows = got.part.rows ∙ sym of_data.rows;
      book =
          ap (joined lines (book_of context.keep [])) got.part.book
          ∙ joined_is_book context.keep lines [] (part_of_data context bytes start).faults
          ∙ (λ i. book_of (is_context i).keep ((sym of_data.faults) i));
      stats =
          (λ i. record { ranges = got.ranges i; rescans = got.rescanned_ranges i; scanned = (ap (λ n. n + read.joined.rescanned) got.bytes ∙ got.scanned) i })
          ∙ (λ i. stats_of (record o { range_size = is_size i }) ((is_context i).dialect) (drop (at i) input));
    },
  )
