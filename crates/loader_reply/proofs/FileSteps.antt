-- Files, as they are read one after another.
use Rattle.std.proofs.Common.{◌≡◌, ◌⊎◌, inl, inr, ℕ, ◌+◌, ◌<◌, ◌≤◌, cond, List, [], ◌∷◌, ◌++◌, map, length, take, drop, Option, None, Some, IfSome, refl, sym, ap, ◌∙◌, subst, arith, append_assoc, append-nil, length-append, length-take}
use Rattle.std.specs.List.{filter_map}
use Rattle.std.proofs.lemmas.Bool.{le-ltb, lt-ltb}
use Rattle.std.proofs.lemmas.List.{length-map, map-append, take_all, drop_all}
use Rattle.csv_source.specs.Files.{file_of, Lacks}
use Rattle.load_options.specs.declared.options.Options.{Options}
use Rattle.csv_sniffer.specs.declared.found.Sniffed.{Sniffed}
use Rattle.csv_sniffer.specs.Input.{found}
use Rattle.report_text.specs.declared.outcome.Outcome.{Outcome}
use Rattle.report_text.specs.declared.outcome.Outcome.TheVariants as outcomes
use Rattle.loader_reply.specs.declared.batch.Load.{Load}
use Rattle.window_load.specs.declared.data_read.WindowRead.{WindowRead}
use Rattle.loader_reply.specs.Batch.{found_in_first, batch_refusal, last_read, load_of, no_files, with_load, AreOpened, AreRead, CanJoin, HasFiles, IsLoadOf, IsOver, IsPrintableFiles, IsReadWhole, IsReadOver, LacksOne}
use Rattle.loader_reply.specs.Loading.{IsFileLoad, IsInput, IsLaterLoad}
use Rattle.loader_reply.specs.SoFar.{AreOf, AreShort, AreSoFar, IsFoundIn, IsNextLoad, IsSoFar, LeavesNone, ReadsNext, Told}
use Rattle.loader_reply.proofs.Batches.{later_is_next, none_loaded, one_more, can_join, is_load_of, has_files, all_print}

-- ---- what came of the files that were read

pub short-more : (limit : ℕ) (inputs : List (List ℕ)) (input : List ℕ) → AreShort limit inputs → length input ≤ limit → AreShort limit (inputs ++ input ∷ [])
short-more limit [] input short one = (one, tt)
short-more limit (first ∷ inputs) input short one = (short.0, short-more limit inputs input short.1 one)

found-more : (o : Options) (s : Sniffed) (inputs : List (List ℕ)) (input : List ℕ) → IsFoundIn o s inputs → (length inputs ≡ 0 → s ≡ found o input) → IsFoundIn o s (inputs ++ input ∷ [])
found-more o s [] input is first = first refl
found-more o s (other ∷ inputs) input is first = is

pub of-more : (held : Told) (names inputs : List (List ℕ)) (name input : List ℕ) → AreOf held names inputs → AreOf held (name ∷ []) (input ∷ []) → AreOf held (names ++ name ∷ []) (inputs ++ input ∷ [])
of-more None names inputs name input is one = tt
of-more (Some files) names inputs name input is one =
    map-append (file_of files) names (name ∷ []) ∙ (λ i. is i ++ one i) ∙ sym (map-append (λ x. Some x) inputs (input ∷ []))

-- a file that was read whole
pub one_read : (limit : ℕ) (held : Told) (name input : List ℕ) (left : Option (List ℕ)) → IsInput limit held name input left → length input ≤ limit → AreOf held (name ∷ []) (input ∷ []) × LeavesNone held left
one_read limit None name input left is short = (tt, tt)
one_read limit (Some files) name input left is short =
    let whole : List ℕ = is.0 in
    let fits : length whole ≤ limit + 1 = omega (arith, short, ap length is.2, length-take (limit + 1) whole) in
    let same : input ≡ whole = is.2 ∙ take_all (limit + 1) whole fits in (
      ap (λ o. o ∷ []) (is.1 ∙ ap (λ x. Some x) (sym same)),
      is.3 ∙ ap (λ x. Some x) (drop_all (limit + 1) whole fits),
    )

-- ---- which file decides

all_given : (inputs : List (List ℕ)) → filter_map (λ input. input) (map (λ (input : List ℕ). Some input) inputs) ≡ inputs
all_given [] = refl
all_given (input ∷ inputs) = ap (λ rest. input ∷ rest) (all_given inputs)

none_refused : (limit : ℕ) (inputs : List (List ℕ)) → AreShort limit inputs → batch_refusal limit (map (λ input. Some input) inputs) ≡ None
none_refused limit [] short = refl
none_refused limit (input ∷ inputs) short =
    ap (λ t. cond t (Some (outcomes.TooLarge limit)) (batch_refusal limit (map (λ x. Some x) inputs))) (le-ltb limit (length input) short.0) ∙ none_refused limit inputs short.1

-- the file behind short ones decides
decides : (limit : ℕ) (inputs : List (List ℕ)) (opened : Option (List ℕ)) (later : List (Option (List ℕ))) (outcome : Outcome) → AreShort limit inputs → batch_refusal limit (opened ∷ later) ≡ Some outcome →
    batch_refusal limit (map (λ input. Some input) inputs ++ opened ∷ later) ≡ Some outcome
decides limit [] opened later outcome short is = is
decides limit (input ∷ inputs) opened later outcome short is =
    ap (λ t. cond t (Some (outcomes.TooLarge limit)) (batch_refusal limit (map (λ x. Some x) inputs ++ opened ∷ later))) (le-ltb limit (length input) short.0)
    ∙ decides limit inputs opened later outcome short.1 is

-- the last of short ones was read last
last_of_short : (limit : ℕ) (inputs : List (List ℕ)) (left : Option (List ℕ)) → AreShort limit inputs → left ≡ Some [] → IfSome (last_read limit (map (λ input. Some input) inputs)) (λ input. left ≡ Some (drop (limit + 1) input))
last_of_short limit [] left short none = tt
last_of_short limit (input ∷ []) left short none =
    let fits : length input ≤ limit + 1 = omega (arith, short.0) in none ∙ ap (λ x. Some x) (sym (drop_all (limit + 1) input fits))
last_of_short limit (input ∷ (other ∷ inputs)) left short none =
    subst (λ t. IfSome (cond t (Some input) (last_read limit (Some other ∷ map (λ x. Some x) inputs))) (λ x. left ≡ Some (drop (limit + 1) x))) (sym (le-ltb limit (length input) short.0))
    (last_of_short limit (other ∷ inputs) left short.1 none)

-- one over the limit was read last
over_last : (limit : ℕ) (inputs : List (List ℕ)) (input : List ℕ) (later : List (Option (List ℕ))) → AreShort limit inputs → limit < length input → last_read limit (map (λ x. Some x) inputs ++ Some input ∷ later) ≡ Some input
over_last limit [] input [] short over = refl
over_last limit [] input (other ∷ later) short over = ap (λ t. cond t (Some input) (last_read limit (other ∷ later))) (lt-ltb limit (length input) over)
over_last limit (first ∷ []) input later short over =
    ap (λ t. cond t (Some first) (last_read limit (Some input ∷ later))) (le-ltb limit (length first) short.0) ∙ over_last limit [] input later tt over
over_last limit (first ∷ (other ∷ inputs)) input later short over =
    ap (λ t. cond t (Some first) (last_read limit (Some other ∷ (map (λ x. Some x) inputs ++ Some input ∷ later)))) (le-ltb limit (length first) short.0)
    ∙ over_last limit (other ∷ inputs) input later short.1 over

-- ---- how far the reading has come

pub of_none : (held : Told) → AreOf held [] []
of_none None = tt
of_none (Some files) = refl

abbrev pub none_read : (limit : ℕ) (held : Told) (all : List (List ℕ)) → AreSoFar limit held all all
none_read limit held all = record { names = []; inputs = []; split = refl; as_many = refl; short = tt; of = of_none held }

module _ (limit : ℕ) (held : Told) (all : List (List ℕ)) (name : List ℕ) (later : List (List ℕ)) (is : AreSoFar limit held all (name ∷ later)) (left : Option (List ℕ)) where
  abbrev pub one_more_read : (input : List ℕ) → IsInput limit held name input left → length input ≤ limit → AreSoFar limit held all later
  one_more_read input read fits = record {
    names = is.names ++ name ∷ [];
    inputs = is.inputs ++ input ∷ [];
    split = is.split ∙ sym (append_assoc is.names (name ∷ []) later);
    as_many = omega (arith, length-append is.names (name ∷ []), length-append is.inputs (input ∷ []), is.as_many);
    short = short-more limit is.inputs input is.short fits;
    of = of-more held is.names is.inputs name input is.of (one_read limit held name input left read fits).0;
  }

  -- the file that decides: too large, or not there
  pub over_told : IsReadOver limit held name left → AreRead limit held all left (IsOver limit)
  over_told read = by_told held is.of read.1 where
    before : List (Option (List ℕ))
    before = map (λ input. Some input) is.inputs

    long : (whole : List ℕ) → length (take (limit + 1) whole) ≡ limit + 1 → limit < length whole
    long whole full = omega (arith, full, length-take (limit + 1) whole)

    counted : (opened : Option (List ℕ)) (others : List (Option (List ℕ))) → length others ≡ length later → length (before ++ opened ∷ others) ≡ length all
    counted opened others same =
        omega (arith, length-append before (opened ∷ others), length-map is.inputs (λ (input : List ℕ). Some input), is.as_many, ap length is.split, length-append is.names (name ∷ later), same)

    refused : (input : List ℕ) (others : List (Option (List ℕ))) → limit < length input → IsOver limit (before ++ Some input ∷ others)
    refused input others over =
        decides limit is.inputs (Some input) others (outcomes.TooLarge limit) is.short (ap (λ t. cond t (Some (outcomes.TooLarge limit)) (batch_refusal limit others)) (lt-ltb limit (length input) over))

    by_told : (told : Told) → AreOf told is.names is.inputs → IsInput limit told name read.0 left → AreRead limit told all left (IsOver limit)
    by_told None of input =
        let over : limit < length read.0 = omega (arith, read.2) in
        let others : List (Option (List ℕ)) = map (λ _. None) later in
        (before ++ Some read.0 ∷ others, counted (Some read.0) others (length-map later (λ (_ : List ℕ). None)), tt, refused read.0 others over)
    by_told (Some files) of input =
        let whole : List ℕ = input.0 in
        let over : limit < length whole = long whole (ap length (sym input.2) ∙ read.2) in
        let others : List (Option (List ℕ)) = map (file_of files) later in
        let opened : map (file_of files) all ≡ before ++ Some whole ∷ others =
        ap (map (file_of files)) is.split ∙ map-append (file_of files) is.names (name ∷ later) ∙ (λ i. of i ++ input.1 i ∷ others) in (
          before ++ Some whole ∷ others,
          counted (Some whole) others (length-map later (file_of files)),
          (sym opened, subst (λ o. IfSome o (λ x. left ≡ Some (drop (limit + 1) x))) (sym (over_last limit is.inputs whole others is.short over)) input.3),
          refused whole others over,
        )

  pub lacks_one : Lacks held name → LacksOne limit held all
  lacks_one lacks = by_told held is.of lacks where
    by_told : (told : Told) → AreOf told is.names is.inputs → Lacks told name → LacksOne limit told all
    by_told None of none = none
    by_told (Some files) of none =
        let others : List (Option (List ℕ)) = map (file_of files) later in
        ap (batch_refusal limit)
        (ap (map (file_of files)) is.split ∙ map-append (file_of files) is.names (name ∷ later) ∙ (λ i. of i ++ none i ∷ others))
        ∙ decides limit is.inputs None others outcomes.ReadFault is.short refl

pub none_left : (limit : ℕ) (held : Told) (name : List ℕ) (left : Option (List ℕ)) (Holds : List ℕ → Type 0) → IsReadWhole limit held name left Holds → LeavesNone held left
none_left limit held name left Holds read = (one_read limit held name read.0 left read.1 read.2).1

-- the only file decides: too large, or not there, unless the source failed
module _ (limit : ℕ) (held : Told) (name : List ℕ) (left : Option (List ℕ)) where
  pub over_alone : IsReadOver limit held name left → AreRead limit held (name ∷ []) left (IsOver limit)
  over_alone = over_told limit held (name ∷ []) name [] (none_read limit held (name ∷ [])) left

  pub lacks_alone : {Rises : Type 0} → Rises ⊎ Lacks held name → Rises ⊎ LacksOne limit held (name ∷ [])
  lacks_alone (inl rises) = inl rises
  lacks_alone (inr lacks) = inr (lacks_one limit held (name ∷ []) name [] (none_read limit held (name ∷ [])) left lacks)

-- all files were read, and none decides
module _ (limit : ℕ) (held : Told) (all : List (List ℕ)) (is : AreSoFar limit held all []) (left : Option (List ℕ)) where
  pub all_named : is.names ≡ all
  all_named = sym (is.split ∙ append-nil is.names)

  pub all_read : LeavesNone held left → (Holds : List (List ℕ) → Type 0) → Holds is.inputs →
      AreRead limit held all left (λ opened. (batch_refusal limit opened ≡ None) × Holds (filter_map (λ input. input) opened))
  all_read none Holds holds =
      let opened : List (Option (List ℕ)) = map (λ input. Some input) is.inputs in
      let as_many : length opened ≡ length all = omega (arith, length-map is.inputs (λ (input : List ℕ). Some input), is.as_many, ap length all_named) in
      (opened, as_many, by_told held is.of none, (none_refused limit is.inputs is.short, subst Holds (sym (all_given is.inputs)) holds)) where
        by_told : (told : Told) → AreOf told is.names is.inputs → LeavesNone told left → AreOpened limit told all (map (λ input. Some input) is.inputs) left
        by_told None of none = tt
        by_told (Some files) of none = (sym of ∙ ap (map (file_of files)) all_named, last_of_short limit is.inputs left is.short none)

-- ---- with what they come to

pub none_so_far : (o : Options) (s : Sniffed) (held : Told) (all : List (List ℕ)) → IsSoFar o s held all all 0 (no_files s.types)
none_so_far o s held all = record { read = none_read o.max_input held all; numbered = refl; found_in = tt; loads = none_loaded o s }

module _ (o : Options) (s : Sniffed) (held : Told) (all : List (List ℕ)) (name : List ℕ) (later : List (List ℕ)) (number : ℕ) (load : Load) (is : IsSoFar o s held all (name ∷ later) number load) (left : Option (List ℕ)) where
  pub next_file : (file : Option WindowRead) (read : IsReadWhole o.max_input held name left (λ input. IsNextLoad o s number input file)) → (number ≡ 0 → s ≡ found o read.0) →
      IsSoFar o s held all later (number + 1) (with_load load name file)
  next_file file read first = record {
    read = one_more_read o.max_input held all name later is.read left read.0 read.1 read.2;
    numbered = omega (arith, length-append is.read.inputs (read.0 ∷ []), is.numbered);
    found_in = found-more o s is.read.inputs read.0 is.found_in (λ none. first (is.numbered ∙ none));
    loads = one_more o s name read.0 is.read.names is.read.inputs load file is.read.as_many is.loads (subst (λ n. IsNextLoad o s n read.0 file) is.numbered read.3);
  }

-- one file as it was read
module _ (o : Options) (s : Sniffed) (held : Told) (name : List ℕ) (left : Option (List ℕ)) where
  pub first_joins : (file : WindowRead) → IsReadWhole o.max_input held name left (λ input. (s ≡ found o input) × IsFileLoad o s 0 input file) → CanJoin (no_files s.types) (Some file)
  first_joins file read = can_join o s [] [] read.0 0 (no_files s.types) (Some file) (none_loaded o s) read.3.1

  pub reads_first : (file : WindowRead) → IsReadWhole o.max_input held name left (λ input. (s ≡ found o input) × IsFileLoad o s 0 input file) →
      ReadsNext o s held name 0 (no_files s.types) (with_load (no_files s.types) name (Some file)) left
  reads_first file read = (
    λ all later so_far. next_file o s held all name later 0 (no_files s.types) so_far left (Some file) (read.0, read.1, read.2, read.3.1) (λ zero. read.3.0),
    (one_read o.max_input held name read.0 left read.1 read.2).1,
  )

  module _ (file : Option WindowRead) (number : ℕ) (there : 0 < number) (load : Load) (read : IsReadWhole o.max_input held name left (λ input. IsLaterLoad o s number input file)) where
    abbrev next : IsReadWhole o.max_input held name left (λ input. IsNextLoad o s number input file)
    next = (read.0, read.1, read.2, later_is_next o s number read.0 file there read.3)

    pub later_joins : (all later : List (List ℕ)) → IsSoFar o s held all (name ∷ later) number load → CanJoin load file
    later_joins all later so_far = can_join o s so_far.read.names so_far.read.inputs read.0 number load file so_far.loads next.3

    pub reads_later : ReadsNext o s held name number load (with_load load name file) left
    reads_later = (
      λ all later so_far. next_file o s held all name later number load so_far left file next (λ zero. absurd (let wrong : ⊥ = omega (arith, zero, there) in wrong)),
      (one_read o.max_input held name read.0 left read.1 read.2).1,
    )

module _ (o : Options) (s : Sniffed) (held : Told) (all : List (List ℕ)) (number : ℕ) (load : Load) (is : IsSoFar o s held all [] number load) where
  found_first : (inputs : List (List ℕ)) → IsFoundIn o s inputs → 0 < length inputs → s ≡ found_in_first o inputs
  found_first [] found none = absurd (let wrong : ⊥ = omega (arith, none) in wrong)
  found_first (input ∷ inputs) found there = found

  pub all_loaded : 0 < number → (left : Option (List ℕ)) → LeavesNone held left → AreRead o.max_input held all left (IsLoadOf o all s load)
  all_loaded some left none =
      let there : 0 < length is.read.inputs = omega (arith, some, is.numbered) in
      let read = all_read o.max_input held all is.read left none (λ inputs. (s ≡ found_in_first o inputs) × (load ≡ load_of o s all inputs)) (
        found_first is.read.inputs is.found_in there,
        is_load_of o s is.read.names is.read.inputs load is.loads ∙ ap (λ names. load_of o s names is.read.inputs) (all_named o.max_input held all is.read left),
      ) in
      (read.0, read.1, read.2, (read.3.0, read.3.1.0, read.3.1.1))

  pub all_have_files : (left : Option (List ℕ)) → HasFiles (length all) load
  all_have_files left = subst (λ names. HasFiles (length names) load) (all_named o.max_input held all is.read left) (has_files o s is.read.names is.read.inputs is.read.as_many load is.loads)

  pub all_printable : length s.names ≡ length s.types → IsPrintableFiles s load
  all_printable same = all_print o s is.read.names is.read.inputs load same is.loads
