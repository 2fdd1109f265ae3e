-- Several files with one more.
use Rattle.std.proofs.Common.{◌≡◌, ℕ, zero, suc, ◌+◌, ◌<◌, ◌||◌, Bool, true, false, cond, List, [], ◌∷◌, ◌++◌, map, length, Option, None, Some, refl, sym, ap, ◌∙◌, arith, append-nil, subst}
use Rattle.std.specs.Prelude.{flat_map, slice_get, sum, All}
use Rattle.std.proofs.lemmas.List.{map-append}
use Rattle.std.proofs.lemmas.List.Concat.{flat_map-append}
use Rattle.std.proofs.lemmas.List.Elements.{All-nil, All-append, All-weaker}
use Rattle.std.proofs.lemmas.List.Sums.{sum_by-cons, sum_by-append}
use Rattle.value_types.specs.Datum.{Datum}
use Rattle.value_types.specs.OfType.{fit_all}
use Rattle.value_types.specs.Spelled.{IsSpelledCell}
use Rattle.load_options.specs.declared.options.Options.{Options}
use Rattle.csv_sniffer.specs.declared.found.Sniffed.{Sniffed}
use Rattle.reject_book.specs.declared.reject.Reject.{Reject}
use Rattle.reject_book.specs.Kept.{book_of}
use Rattle.reject_book.specs.Verdict.{Verdict}
use Rattle.file_list.specs.BatchView.{BatchView, with_file}
use Rattle.report_text.specs.declared.outcome.Stats.{Stats}
use Rattle.loader_reply.specs.declared.batch.Load.{Load}
use Rattle.loader_reply.specs.declared.batch.Load.TheVariants as loads
use Rattle.window_load.specs.declared.data_read.DataRead.{DataRead}
use Rattle.window_load.specs.declared.data_read.WindowRead.{WindowRead}
use Rattle.window_load.specs.declared.data_read.WindowRead.TheVariants as reads
use Rattle.loader_reply.specs.Batch.{readings_from, books_of, batch_of, batch_error, both_stats, file_stats, batch_stats, load_of, other_header_in, unless_error, unless_headed_otherwise, CanJoin, HasFiles, IsPrintableFiles, no_files, with_load}
use Rattle.loader_reply.specs.Loading.{is_headed_otherwise, IsFileLoad, IsLaterLoad}
use Rattle.loader_reply.specs.Reading.{file_reading, table_rows, faults, keep_of, ending_error}
use Rattle.loader_reply.specs.SoFar.{other_so_far, IsNextLoad, IsSoFarLoad}
use Rattle.loader_reply.proofs.Printing.{IsRowOf, file_prints}

-- ---- the readings

readings-more : (o : Options) (s : Sniffed) (n : ℕ) (inputs : List (List ℕ)) (input : List ℕ) →
    readings_from o s n (inputs ++ input ∷ []) ≡ readings_from o s n inputs ++ file_reading o s (n + length inputs) input ∷ []
readings-more o s n [] input = let same : n ≡ n + 0 = omega arith in ap (λ k. file_reading o s k input ∷ []) same
readings-more o s n (first ∷ inputs) input =
    let same : n + 1 + length inputs ≡ n + suc (length inputs) = omega arith in
    ap (λ rest. file_reading o s n first ∷ rest) (readings-more o s (n + 1) inputs input)
    ∙ ap (λ k. file_reading o s n first ∷ (readings_from o s (n + 1) inputs ++ file_reading o s k input ∷ [])) same

as_many_readings : (o : Options) (s : Sniffed) (n : ℕ) (inputs : List (List ℕ)) → length (readings_from o s n inputs) ≡ length inputs
as_many_readings o s n [] = refl
as_many_readings o s n (input ∷ inputs) = ap suc (as_many_readings o s (n + 1) inputs)

books-more : (o : Options) (names : List (List ℕ)) (readings : List (List (Verdict (List Datum) Reject))) (name : List ℕ) (vs : List (Verdict (List Datum) Reject)) → length names ≡ length readings →
    books_of o (names ++ name ∷ []) (readings ++ vs ∷ []) ≡ books_of o names readings ++ record { name = name; book = book_of (keep_of o) (faults vs) } ∷ []
books-more o [] [] name vs same = refl
books-more o [] (reading ∷ readings) name vs same = absurd (let wrong : ⊥ = omega (arith, same) in wrong)
books-more o (first ∷ names) [] name vs same = absurd (let wrong : ⊥ = omega (arith, same) in wrong)
books-more o (first ∷ names) (reading ∷ readings) name vs same =
    let others : length names ≡ length readings = omega (arith, same) in
    ap (λ rest. record { name = first; book = book_of (keep_of o) (faults reading) } ∷ rest) (books-more o names readings name vs others)

flat_map-one : {X A : Type 0} (f : X → List A) (xs : List X) (x : X) → flat_map f (xs ++ x ∷ []) ≡ flat_map f xs ++ f x
flat_map-one f xs x = flat_map-append f xs (x ∷ []) ∙ ap (λ ys. flat_map f xs ++ ys) (append-nil (f x))

sum-one : (xs : List ℕ) (x : ℕ) → sum (xs ++ x ∷ []) ≡ sum xs + x
sum-one xs x = sum_by-append (λ n. n) xs (x ∷ []) ∙ ap (λ n. sum xs + n) (one (sum_by-cons (λ n. n) x [])) where
  one : sum (x ∷ []) ≡ x + sum [] → sum (x ∷ []) ≡ x
  one is = let none : x + 0 ≡ x = omega arith in is ∙ none

-- ---- the first error

error_stays : (b : Bool) (fs gs : List Reject) (r : Reject) → cond b None (slice_get fs 0) ≡ Some r → cond b None (slice_get (fs ++ gs) 0) ≡ Some r
error_stays true fs gs r is = absurd (let wrong : ⊥ = cc in wrong)
error_stays false [] gs r is = absurd (let wrong : ⊥ = cc in wrong)
error_stays false (f ∷ fs) gs r is = is

error_later : (b : Bool) (fs gs : List Reject) → cond b None (slice_get fs 0) ≡ None → cond b None (slice_get (fs ++ gs) 0) ≡ cond b None (slice_get gs 0)
error_later true fs gs is = refl
error_later false [] gs is = refl
error_later false (f ∷ fs) gs is = absurd (let wrong : ⊥ = cc in wrong)

no_error : (b : Bool) → cond b None (slice_get {X = Reject} [] 0) ≡ None
no_error true = refl
no_error false = refl

-- ---- a file that begins with another header

other_stays : (o : Options) (s : Sniffed) (names inputs : List (List ℕ)) (name input first : List ℕ) → other_header_in o s names inputs ≡ Some first →
    other_header_in o s (names ++ name ∷ []) (inputs ++ input ∷ []) ≡ Some first
other_stays o s [] inputs name input first is = absurd (let wrong : ⊥ = cc in wrong)
other_stays o s (n ∷ names) [] name input first is = absurd (let wrong : ⊥ = cc in wrong)
other_stays o s (n ∷ names) (i ∷ inputs) name input first is = by_test (λ later. other_stays o s names inputs name input first later) (is_headed_otherwise o s i) is where
  by_test : (other_header_in o s names inputs ≡ Some first → other_header_in o s (names ++ name ∷ []) (inputs ++ input ∷ []) ≡ Some first) →
      (t : Bool) → cond t (Some n) (other_header_in o s names inputs) ≡ Some first → cond t (Some n) (other_header_in o s (names ++ name ∷ []) (inputs ++ input ∷ [])) ≡ Some first
  by_test stays true here = here
  by_test stays false later = stays later

other_later : (o : Options) (s : Sniffed) (names inputs : List (List ℕ)) (name input : List ℕ) → length names ≡ length inputs → other_header_in o s names inputs ≡ None →
    other_header_in o s (names ++ name ∷ []) (inputs ++ input ∷ []) ≡ cond (is_headed_otherwise o s input) (Some name) None
other_later o s [] [] name input same is = refl
other_later o s [] (i ∷ inputs) name input same is = absurd (let wrong : ⊥ = omega (arith, same) in wrong)
other_later o s (n ∷ names) [] name input same is = absurd (let wrong : ⊥ = omega (arith, same) in wrong)
other_later o s (n ∷ names) (i ∷ inputs) name input same is =
    let others : length names ≡ length inputs = omega (arith, same) in
    by_test (λ later. other_later o s names inputs name input others later) (is_headed_otherwise o s i) is where
      by_test : (other_header_in o s names inputs ≡ None → other_header_in o s (names ++ name ∷ []) (inputs ++ input ∷ []) ≡ cond (is_headed_otherwise o s input) (Some name) None) →
          (t : Bool) → cond t (Some n) (other_header_in o s names inputs) ≡ None →
          cond t (Some n) (other_header_in o s (names ++ name ∷ []) (inputs ++ input ∷ [])) ≡ cond (is_headed_otherwise o s input) (Some name) None
      by_test comes true here = absurd (let wrong : ⊥ = cc in wrong)
      by_test comes false later = comes later

-- ---- one more file

pub later_is_next : (o : Options) (s : Sniffed) (n : ℕ) (input : List ℕ) (load : Option WindowRead) → 0 < n → IsLaterLoad o s n input load → IsNextLoad o s n input load
later_is_next o s zero input load there is = absurd (let wrong : ⊥ = omega (arith, there) in wrong)
later_is_next o s (suc n) input load there is = is

pub none_loaded : (o : Options) (s : Sniffed) → IsSoFarLoad o s [] [] (no_files s.types)
none_loaded o s = (refl, no_error (o.ignore_errors || o.store_rejects), refl, refl)

module _ (o : Options) (s : Sniffed) (names inputs : List (List ℕ)) (name input : List ℕ) where
  abbrev vs : List (Verdict (List Datum) Reject)
  vs = file_reading o s (length inputs) input

  abbrev before : List (List (Verdict (List Datum) Reject))
  before = readings_from o s 0 inputs

  abbrev on : Bool
  on = o.ignore_errors || o.store_rejects

  read-more : readings_from o s 0 (inputs ++ input ∷ []) ≡ before ++ vs ∷ []
  read-more = let same : 0 + length inputs ≡ length inputs = omega arith in
      readings-more o s 0 inputs input ∙ ap (λ k. before ++ file_reading o s k input ∷ []) same

  error-more : batch_error o s (inputs ++ input ∷ []) ≡ ending_error o (flat_map faults before ++ faults vs)
  error-more = ap (λ rs. ending_error o (flat_map faults rs)) read-more ∙ ap (ending_error o) (flat_map-one faults before vs)

  batch-more : length names ≡ length inputs →
      batch_of o s (names ++ name ∷ []) (inputs ++ input ∷ []) ≡ with_file (batch_of o s names inputs) (table_rows vs) (record { name = name; book = book_of (keep_of o) (faults vs) })
  batch-more same = λ i. record {
    types = s.types;
    rows = (ap (flat_map table_rows) read-more ∙ flat_map-one table_rows before vs) i;
    files = (ap (books_of o (names ++ name ∷ [])) read-more ∙ books-more o names before name vs (same ∙ sym (as_many_readings o s 0 inputs))) i;
  }

  sums : (count : Stats → ℕ) → sum (map count (map (file_stats o s) (inputs ++ input ∷ []))) ≡ sum (map count (map (file_stats o s) inputs)) + count (file_stats o s input)
  sums count =
      ap (λ xs. sum (map count xs)) (map-append (file_stats o s) inputs (input ∷ []))
      ∙ ap sum (map-append count (map (file_stats o s) inputs) (file_stats o s input ∷ []))
      ∙ sum-one (map count (map (file_stats o s) inputs)) (count (file_stats o s input))

  stats-more : batch_stats o s (inputs ++ input ∷ []) ≡ both_stats (batch_stats o s inputs) (file_stats o s input)
  stats-more = λ i. record { ranges = sums (λ x. x.ranges) i; rescans = sums (λ x. x.rescans) i; scanned = sums (λ x. x.scanned) i }

  -- where the next one begins with no other header, none of them does
  abbrev OtherStays : Type 0
  OtherStays = other_so_far o s names inputs ≡ None → other_so_far o s (names ++ name ∷ []) (inputs ++ input ∷ []) ≡ None

  whole_more : OtherStays → (batch : BatchView) (stats : Stats) (file : WindowRead) → length names ≡ length inputs → IsSoFarLoad o s names inputs (loads.Whole batch stats) → IsFileLoad o s (length inputs) input file →
      IsSoFarLoad o s (names ++ name ∷ []) (inputs ++ input ∷ []) (with_load (loads.Whole batch stats) name (Some file))
  whole_more alike batch stats (reads.Stopped reject) same is read = (alike is.0, error-more ∙ error_later on (flat_map faults before) (faults vs) is.1 ∙ read)
  whole_more alike batch stats (reads.All got) same is read = (
    alike is.0,
    error-more ∙ error_later on (flat_map faults before) (faults vs) is.1 ∙ read.0,
    (λ i. with_file (is.2 i) (read.1.rows i) (record { name = name; book = read.1.book i })) ∙ sym (batch-more same),
    (λ i. both_stats (is.3 i) (read.1.stats i)) ∙ sym stats-more,
  )

  error_kept : OtherStays → (reject : Reject) → IsSoFarLoad o s names inputs (loads.FirstError reject) → IsSoFarLoad o s (names ++ name ∷ []) (inputs ++ input ∷ []) (loads.FirstError reject)
  error_kept alike reject is = (alike is.0, error-more ∙ error_stays on (flat_map faults before) (faults vs) reject is.1)

-- the first one
module _ (o : Options) (s : Sniffed) (name input : List ℕ) where
  first_one : (load : Load) (file : WindowRead) → IsSoFarLoad o s [] [] load → IsFileLoad o s 0 input file → IsSoFarLoad o s (name ∷ []) (input ∷ []) (with_load load name (Some file))
  first_one (loads.Whole batch stats) file is read = whole_more o s [] [] name input (λ none. none) batch stats file refl is read
  first_one (loads.FirstError reject) file is read = error_kept o s [] [] name input (λ none. none) reject is
  first_one (loads.OtherHeader first) file is read = absurd (let wrong : ⊥ = cc in wrong)

-- one behind the first
module _ (o : Options) (s : Sniffed) (n i : List ℕ) (names inputs : List (List ℕ)) (name input : List ℕ) (same : length names ≡ length inputs) where
  abbrev with_one : ℕ
  with_one = length (i ∷ inputs)

  none_more : is_headed_otherwise o s input ≡ false → OtherStays o s (n ∷ names) (i ∷ inputs) name input
  none_more alike none = other_later o s names inputs name input same none ∙ ap (λ t. cond t (Some name) None) alike

  one_more_other : other_so_far o s (n ∷ names) (i ∷ inputs) ≡ None → is_headed_otherwise o s input ≡ true → IsSoFarLoad o s (n ∷ (names ++ name ∷ [])) (i ∷ (inputs ++ input ∷ [])) (loads.OtherHeader name)
  one_more_other none other = other_later o s names inputs name input same none ∙ ap (λ t. cond t (Some name) None) other

  later_one : (load : Load) (file : Option WindowRead) → IsSoFarLoad o s (n ∷ names) (i ∷ inputs) load → IsLaterLoad o s with_one input file →
      IsSoFarLoad o s (n ∷ (names ++ name ∷ [])) (i ∷ (inputs ++ input ∷ [])) (with_load load name file)
  later_one (loads.Whole batch stats) None is read = one_more_other is.0 read
  later_one (loads.Whole batch stats) (Some file) is read = whole_more o s (n ∷ names) (i ∷ inputs) name input (none_more read.0) batch stats file (ap suc same) is read.1
  later_one (loads.FirstError reject) None is read = one_more_other is.0 read
  later_one (loads.FirstError reject) (Some file) is read = error_kept o s (n ∷ names) (i ∷ inputs) name input (none_more read.0) reject is
  later_one (loads.OtherHeader first) file is read = other_stays o s names inputs name input first is

module _ (o : Options) (s : Sniffed) (name input : List ℕ) where
  pub one_more : (names inputs : List (List ℕ)) (load : Load) (file : Option WindowRead) → length names ≡ length inputs → IsSoFarLoad o s names inputs load → IsNextLoad o s (length inputs) input file →
      IsSoFarLoad o s (names ++ name ∷ []) (inputs ++ input ∷ []) (with_load load name file)
  one_more [] [] load None same is read = absurd read
  one_more [] [] load (Some file) same is read = first_one o s name input load file is read
  one_more [] (i ∷ inputs) load file same is read = absurd (let wrong : ⊥ = omega (arith, same) in wrong)
  one_more (n ∷ names) [] load file same is read = absurd (let wrong : ⊥ = omega (arith, same) in wrong)
  one_more (n ∷ names) (i ∷ inputs) load file same is read = let others : length names ≡ length inputs = omega (arith, same) in later_one o s n i names inputs name input others load file is read

-- the types of a file that was loaded whole
whole_types : (o : Options) (s : Sniffed) (number : ℕ) (input : List ℕ) (got : DataRead) → IsNextLoad o s number input (Some (reads.All got)) → got.joined.table.types ≡ s.types
whole_types o s zero input got read = read.1.types
whole_types o s (suc n) input got read = read.1.1.types

module _ (o : Options) (s : Sniffed) (names inputs : List (List ℕ)) (input : List ℕ) where
  pub can_join : (number : ℕ) (load : Load) (file : Option WindowRead) → IsSoFarLoad o s names inputs load → IsNextLoad o s number input file → CanJoin load file
  can_join number (loads.FirstError reject) file is read = tt
  can_join number (loads.OtherHeader name) file is read = tt
  can_join number (loads.Whole batch stats) (Some (reads.Stopped reject)) is read = tt
  can_join number (loads.Whole batch stats) None is read = tt
  can_join number (loads.Whole batch stats) (Some (reads.All got)) is read = ap (λ (b : BatchView). b.types) is.2 ∙ sym (whole_types o s number input got read)

-- ---- all of them

as_many_books : (o : Options) (names : List (List ℕ)) (readings : List (List (Verdict (List Datum) Reject))) → length names ≡ length readings → length (books_of o names readings) ≡ length names
as_many_books o [] readings same = refl
as_many_books o (name ∷ names) [] same = absurd (let wrong : ⊥ = omega (arith, same) in wrong)
as_many_books o (name ∷ names) (vs ∷ readings) same = let others : length names ≡ length readings = omega (arith, same) in ap suc (as_many_books o names readings others)

module _ (o : Options) (s : Sniffed) (names inputs : List (List ℕ)) where
  abbrev whole : Load
  whole = loads.Whole (batch_of o s names inputs) (batch_stats o s inputs)

  pub is_load_of : (load : Load) → IsSoFarLoad o s names inputs load → load ≡ load_of o s names inputs
  is_load_of (loads.OtherHeader name) is = ap (unless_headed_otherwise (unless_error whole (batch_error o s inputs))) (sym is)
  is_load_of (loads.FirstError reject) is =
      ap (unless_error whole) (sym is.1) ∙ ap (unless_headed_otherwise (unless_error whole (batch_error o s inputs))) (sym is.0)
  is_load_of (loads.Whole batch stats) is =
      (λ i. loads.Whole (is.2 i) (is.3 i)) ∙ ap (unless_error whole) (sym is.1) ∙ ap (unless_headed_otherwise (unless_error whole (batch_error o s inputs))) (sym is.0)

  pub has_files : length names ≡ length inputs → (load : Load) → IsSoFarLoad o s names inputs load → HasFiles (length names) load
  has_files same (loads.FirstError reject) is = tt
  has_files same (loads.OtherHeader name) is = tt
  has_files same (loads.Whole batch stats) is =
      ap (λ (b : BatchView). length b.files) is.2 ∙ as_many_books o names (readings_from o s 0 inputs) (same ∙ sym (as_many_readings o s 0 inputs))

-- ---- each answer to them has a text

readings_print : (o : Options) (s : Sniffed) (n : ℕ) (inputs : List (List ℕ)) → All (IsRowOf s.types) (flat_map table_rows (readings_from o s n inputs))
readings_print o s n [] = All-nil (IsRowOf s.types)
readings_print o s n (input ∷ inputs) =
    All-append (IsRowOf s.types) (table_rows (file_reading o s n input)) (flat_map table_rows (readings_from o s (n + 1) inputs)) (file_prints o s n input) (readings_print o s (n + 1) inputs)

pub all_print : (o : Options) (s : Sniffed) (names inputs : List (List ℕ)) (load : Load) → length s.names ≡ length s.types → IsSoFarLoad o s names inputs load → IsPrintableFiles s load
all_print o s names inputs (loads.FirstError reject) same is = same
all_print o s names inputs (loads.OtherHeader name) same is = tt
all_print o s names inputs (loads.Whole batch stats) same is =
    let prints : All (IsRowOf s.types) ((batch_of o s names inputs).rows) = readings_print o s 0 inputs in
    let rows = (batch_of o s names inputs).rows in record {
      names = same;
      types = ap (λ (b : BatchView). b.types) is.2;
      rows = subst (λ (b : BatchView). All (λ cells. fit_all s.types cells ≡ true) b.rows) (sym is.2) (All-weaker (IsRowOf s.types) (λ cells. fit_all s.types cells ≡ true) (λ cells row. row.0) rows prints);
      values = subst (λ (b : BatchView). All (λ cells. All IsSpelledCell cells) b.rows) (sym is.2) (All-weaker (IsRowOf s.types) (λ cells. All IsSpelledCell cells) (λ cells row. row.1) rows prints);
    }
