-- Under what is found in an input the reading of the first file is its reading.
use Rattle.std.proofs.Common.{◌≡◌, List, [], ◌∷◌, ℕ, ◌+◌, drop, ap, ◌∙◌, arith, append-nil}
use Rattle.std.specs.Prelude.{flat_map, sum}
use Rattle.std.proofs.lemmas.List.Sums.{sum_by-cons}
use Rattle.csv_sniffer.specs.Input.{found, place_under}
use Rattle.csv_sniffer.proofs.FoundPlaces.{own_place}
use Rattle.reject_book.specs.Kept.{book_of}
use Rattle.report_text.specs.declared.outcome.Stats.{Stats}
use Rattle.loader_reply.specs.Laws.{OneIsReadAlone, OwnReading}
use Rattle.loader_reply.specs.Reading.{schema_of, verdicts, reading, file_reading, table_rows, faults, keep_of, ending_error, stats_of}

pub own_reading : OwnReading
own_reading o input = let s = found o input in ap (λ start. verdicts 0 s.dialect (schema_of o s) input start) (own_place o input)

flat_map-one : {X A : Type 0} (f : X → List A) (x : X) → flat_map f (x ∷ []) ≡ f x
flat_map-one f x = append-nil (f x)

sum-one : (n : ℕ) → sum (n ∷ []) ≡ n
sum-one n = let none : n + 0 ≡ n = omega arith in sum_by-cons (λ x. x) n [] ∙ none

pub one_is_read_alone : OneIsReadAlone
one_is_read_alone o name input =
    let s = found o input in
    let own : file_reading o s 0 input ≡ reading o input = own_reading o input in
    let alone : Stats = stats_of o s.dialect (drop (place_under o s input) input) in record {
      batch = λ i. record {
        types = s.types;
        rows = (flat_map-one table_rows (file_reading o s 0 input) ∙ ap table_rows own) i;
        files = record { name = name; book = book_of (keep_of o) (faults (own i)) } ∷ [];
      };
      error = ap (ending_error o) (flat_map-one faults (file_reading o s 0 input) ∙ ap faults own);
      stats = (λ i. record { ranges = sum-one alone.ranges i; rescans = sum-one alone.rescans i; scanned = sum-one alone.scanned i })
          ∙ ap (λ n. stats_of o s.dialect (drop n input)) (own_place o input);
    }
