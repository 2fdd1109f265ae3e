-- The arrays of sheets, and the files that they make.
use Rattle.std.proofs.Common.{◌≡◌, ℕ, zero, suc, ◌+◌, ◌<◌, ◌≤◌, List, [], ◌∷◌, ◌++◌, length, map, get_or, take, refl, sym, ap, ◌∙◌, subst, arith, append_assoc, append-nil, drop, drop-cons, length-append}
use Rattle.std.specs.Prelude.{All, IfSome, flat_map, codes}
use Rattle.std.specs.List.{range_with_len}
use Rattle.std.proofs.lemmas.List.{get_or-map, get_or_default, length-map, map-append, same_lists, take-append-le, take_all}
use Rattle.std.proofs.lemmas.List.Concat.{flat_map-append}
use Rattle.std.proofs.lemmas.List.Elements.{All-append, All-head, All-map, All-nil, All-tail}
use Rattle.std.proofs.lemmas.List.Folds.{flat_map-map}
use Rattle.std.proofs.lemmas.List.FromFn.{get_or-map-range_with_len, get_or-range_with_len, length-map-range_with_len, length-range_with_len}
use Rattle.value_types.specs.declared.types.ColumnType.{ColumnType}
use Rattle.value_types.specs.declared.types.ColumnType.TheVariants as types
use Rattle.zip_archive.specs.declared.entry.Entry.{Entry}
use Rattle.zip_archive.specs.Archive.{Member, archive, entry_of, stored}
use Rattle.zip_archive.specs.Directory.{directory}
use Rattle.zip_archive.specs.Headers.{local_header}
use Rattle.npz_writer.specs.declared.part.Part.{Part}
use Rattle.npz_writer.specs.declared.part.Part.TheVariants.{Values, Ends, Nulls}
use Rattle.npz_writer.specs.declared.array.Array.{Array}
use Rattle.npz_writer.specs.declared.slots.Slot.{Slot}
use Rattle.npz_writer.specs.declared.fronts.Front.{Front}
use Rattle.npz_writer.specs.Arrays.{part_name, parts_of}
use Rattle.npz_writer.specs.Sheets.{IsTold, SheetView, members_at, sheet_members}
use Rattle.npz_writer.specs.Slots.{IsMeasure, IsMeasured, IsReady, IsWithin, bytes_in, cells_at, column_slots, count_at, front_in, front_text, head_at, key_at, member_in, no_sheet, sheet_at, sheet_slots, slot_of, slots_of, type_at}

-- ---- lists of lists

module _ {X Y : Type 0} where
  map-map : {Z : Type 0} (g : Y → Z) (f : X → Y) (xs : List X) → map g (map f xs) ≡ map (λ x. g (f x)) xs
  map-map g f [] = refl
  map-map g f (x ∷ xs) = ap (λ rest. g (f x) ∷ rest) (map-map g f xs)

  map-flat_map : {Z : Type 0} (g : Y → Z) (f : X → List Y) (xs : List X) → map g (flat_map f xs) ≡ flat_map (λ x. map g (f x)) xs
  map-flat_map g f [] = refl
  map-flat_map g f (x ∷ xs) = map-append g (f x) (flat_map f xs) ∙ ap (λ rest. map g (f x) ++ rest) (map-flat_map g f xs)

  All-flat_map : (P : Y → Type 0) (f : X → List Y) (xs : List X) → All (λ x. All P (f x)) xs → All P (flat_map f xs)
  All-flat_map P f [] each = All-nil P
  All-flat_map P f (x ∷ xs) each = All-append P (f x) (flat_map f xs) (All-head (λ x. All P (f x)) x xs each) (All-flat_map P f xs (All-tail (λ x. All P (f x)) x xs each))

All-range : (P : ℕ → Type 0) (count : ℕ) → ((k : ℕ) → k < count → P k) → All P (range_with_len 0 count)
All-range P count each k d below =
    let within : k < count = omega (arith, below, length-range_with_len 0 count) in
    let same : get_or (range_with_len 0 count) k d ≡ k = get_or-range_with_len 0 count k d within ∙ (let zero_more : 0 + k ≡ k = omega arith in zero_more) in
    subst P (sym same) (each k within)

last_place : (a n j : ℕ) → a + n ≡ j → range_with_len a (suc n) ≡ range_with_len a n ++ j ∷ []
last_place a zero j is = let same : a ≡ j = omega (arith, is) in ap (λ k. k ∷ []) same
last_place a (suc n) j is = ap (λ rest. a ∷ rest) (last_place (a + 1) n j (omega (arith, is)))

-- what one number more makes
pub one_more : {Y : Type 0} (f : ℕ → List Y) (n : ℕ) → flat_map f (range_with_len 0 (n + 1)) ≡ flat_map f (range_with_len 0 n) ++ f n
one_more f n =
    let one : n + 1 ≡ suc n = omega arith in
    let place : 0 + n ≡ n = omega arith in
    ap (λ m. flat_map f (range_with_len 0 m)) one ∙ ap (flat_map f) (last_place 0 n n place) ∙ flat_map-append f (range_with_len 0 n) (n ∷ []) ∙ ap (λ last. flat_map f (range_with_len 0 n) ++ last) (append-nil (f n))

-- ---- all arrays

module _ (sheets : List SheetView) where
  abbrev member_of_slot : Slot → Member
  member_of_slot slot = member_in sheets slot.array

  column_files : (number column : ℕ) → map member_of_slot (column_slots number (sheet_at sheets number) column) ≡ members_at (sheet_at sheets number) column
  column_files number column = map-map member_of_slot (slot_of number column) (parts_of (type_at (sheet_at sheets number) column) (cells_at (sheet_at sheets number) column))

  sheet_files : (number : ℕ) → map member_of_slot (sheet_slots sheets number) ≡ sheet_members (sheet_at sheets number)
  sheet_files number =
      let sheet : SheetView = sheet_at sheets number in
      map-flat_map member_of_slot (column_slots number sheet) (range_with_len 0 (length sheet.types))
      ∙ (λ i. flat_map (λ column. column_files number column i) (range_with_len 0 (length sheet.types)))

  all_sheets : map (sheet_at sheets) (range_with_len 0 (length sheets)) ≡ sheets
  all_sheets =
      let count : ℕ = length sheets in
      let size : length (map (sheet_at sheets) (range_with_len 0 count)) ≡ count = length-map-range_with_len (sheet_at sheets) 0 count in
      same_lists (map (sheet_at sheets) (range_with_len 0 count)) sheets size
      (λ k d below.
      let within : k < count = omega (arith, below, size) in
      get_or-map-range_with_len (sheet_at sheets) 0 count k k d within (omega arith) ∙ get_or_default sheets k no_sheet d within)

  pub slot_files : map member_of_slot (slots_of sheets) ≡ flat_map sheet_members sheets
  slot_files =
      map-flat_map member_of_slot (sheet_slots sheets) (range_with_len 0 (length sheets))
      ∙ (λ i. flat_map (λ number. sheet_files number i) (range_with_len 0 (length sheets)))
      ∙ sym (flat_map-map sheet_members (sheet_at sheets) (range_with_len 0 (length sheets)))
      ∙ ap (flat_map sheet_members) all_sheets

  pub slots_within : All (λ slot. IsWithin sheets slot.array) (slots_of sheets)
  slots_within =
      let Within : Slot → Type 0 = λ slot. IsWithin sheets slot.array in
      All-flat_map Within (sheet_slots sheets) (range_with_len 0 (length sheets))
      (All-range (λ number. All Within (sheet_slots sheets number)) (length sheets)
      (λ number there.
      let sheet : SheetView = sheet_at sheets number in
      All-flat_map Within (column_slots number sheet) (range_with_len 0 (length sheet.types))
      (All-range (λ column. All Within (column_slots number sheet column)) (length sheet.types)
      (λ column within. All-map Within (slot_of number column) (parts_of (type_at sheet column) (cells_at sheet column)) (λ k d below. record { sheet = there; column = within })))))

-- ---- arrays that are measured

-- a list that was put back whole
pub put_back : (count : ℕ) (new rest : List Slot) → length new ≡ count → take count (new ++ rest) ≡ new
put_back count new rest is = take-append-le count new rest (omega (arith, is)) ∙ take_all count new (omega (arith, is))

module _ (sheets : List SheetView) (old new : List Slot) (size : length new ≡ length old) (each : (k : ℕ) (d : Slot) → k < length old → IsMeasured sheets (get_or old k d) (get_or new k d)) where
  pub ready_all : All (λ slot. IsWithin sheets slot.array) old → All (IsReady sheets) new
  ready_all within k d below =
      let there : k < length old = omega (arith, below, size) in
      let measured : IsMeasured sheets (get_or old k d) (get_or new k d) = each k d there in
      record {
        within = subst (IsWithin sheets) (sym measured.array) (within k d there);
        measure = subst (λ (a : Array). IfSome (get_or new k d).measure (IsMeasure (member_in sheets a) (count_at (sheet_at sheets a.sheet) a.column a.part))) (sym measured.array) measured.measure;
      }

  pub same_arrays : map (λ slot. slot.array) new ≡ map (λ slot. slot.array) old
  same_arrays =
      let array_of : Slot → Array = λ slot. slot.array in
      same_lists (map array_of new) (map array_of old) (length-map new array_of ∙ size ∙ sym (length-map old array_of))
      (λ k d below.
      let none : Slot = slot_of 0 0 Values in
      let there : k < length old = omega (arith, below, size, length-map new array_of) in
      get_or-map array_of new k none d (omega (arith, there, size)) ∙ (each k none there).array ∙ sym (get_or-map array_of old k none d there))

-- ---- the archive

module _ (sheets : List SheetView) (slots : List Slot) where
  front_is : (array : Array) → front_text sheets (front_in sheets array) ≡ stored (member_in sheets array)
  front_is array = append_assoc (local_header (entry_of (member_in sheets array))) (head_at (sheet_at sheets array.sheet) array.column array.part) (bytes_in sheets array)

  pub whole_archive : (entries : List Entry) (fronts : List Front) → entries ≡ map (λ slot. entry_of (member_in sheets slot.array)) slots → fronts ≡ map (λ slot. front_in sheets slot.array) slots
      → map (λ slot. slot.array) slots ≡ map (λ slot. slot.array) (slots_of sheets) → flat_map (front_text sheets) fronts ++ directory entries ≡ archive (flat_map sheet_members sheets)
  unfolding archive
  whole_archive entries fronts entries_are fronts_are arrays_are =
      let member : Slot → Member = λ slot. member_in sheets slot.array in
      let files : map member slots ≡ flat_map sheet_members sheets =
      sym (map-map (member_in sheets) (λ (slot : Slot). slot.array) slots) ∙ ap (map (member_in sheets)) arrays_are ∙ map-map (member_in sheets) (λ (slot : Slot). slot.array) (slots_of sheets) ∙ slot_files sheets in
      let texts : flat_map (front_text sheets) fronts ≡ flat_map stored (flat_map sheet_members sheets) =
      ap (flat_map (front_text sheets)) fronts_are ∙ flat_map-map (front_text sheets) (λ (slot : Slot). front_in sheets slot.array) slots ∙ (λ i. flat_map (λ (slot : Slot). front_is slot.array i) slots)
      ∙ sym (flat_map-map stored member slots) ∙ ap (flat_map stored) files in
      let told : entries ≡ map entry_of (flat_map sheet_members sheets) = entries_are ∙ sym (map-map entry_of member slots) ∙ ap (map entry_of) files in
      λ i. texts i ++ directory (told i)

-- the text of an array stands before those of the next ones
pub front_split : (text : Front → List ℕ) (fronts : List Front) (k : ℕ) (front : Front) (end : List ℕ) → k < length fronts → front ≡ get_or fronts k front
    → flat_map text (drop k fronts) ++ end ≡ text front ++ (flat_map text (drop (k + 1) fronts) ++ end)
front_split text fronts k front end within is =
    let one : suc k ≡ k + 1 = omega arith in
    ap (λ (fs : List Front). flat_map text fs ++ end) (drop-cons fronts k front within ∙ (λ i. sym is i ∷ drop (one i) fronts)) ∙ append_assoc (text front) (flat_map text (drop (k + 1) fronts)) end

-- ---- names

short_part : (ty : ColumnType) (part : Part) → length (part_name ty part) ≤ 6
short_part types.Varchar Values = omega arith
short_part types.Boolean Values = omega arith
short_part types.Bigint Values = omega arith
short_part types.Date Values = omega arith
short_part types.Time Values = omega arith
short_part types.Timestamp Values = omega arith
short_part ty Ends = omega arith
short_part ty Nulls = omega arith

pub short_name : (sheets : List SheetView) (array : Array) → All IsTold sheets → IsWithin sheets array → length (member_in sheets array).name ≤ 65535
short_name sheets array told within =
    let sheet : SheetView = sheet_at sheets array.sheet in
    let is : IsTold sheet = told array.sheet no_sheet within.sheet in
    let none : List ℕ = [] in
    let key : List ℕ = key_at sheet array.column in
    let name : List ℕ = part_name (type_at sheet array.column) array.part in
    let short : length key ≤ 65521 = is.short array.column none (omega (arith, within.column, is.keys)) in
    omega (arith, short, short_part (type_at sheet array.column) array.part, length-append key name, length-append (key ++ name) (codes ".npy"))

-- ---- what is told of arrays

module _ (sheets : List SheetView) (slots : List Slot) (ready : All (IsReady sheets) slots) where
  pub short_names : (entries : List Entry) → entries ≡ map (λ slot. entry_of (member_in sheets slot.array)) slots → All IsTold sheets → All (λ entry. length entry.name ≤ 65535) entries
  short_names entries is told =
      let Short : Entry → Type 0 = λ entry. length entry.name ≤ 65535 in
      subst (All Short) (sym is) (All-map Short (λ (slot : Slot). entry_of (member_in sheets slot.array)) slots (λ k d below. short_name sheets (get_or slots k d).array told (ready k d below).within))

  pub fronts_within : (fronts : List Front) → fronts ≡ map (λ slot. front_in sheets slot.array) slots → All (λ front. IsWithin sheets front.array) fronts
  fronts_within fronts is =
      let Within : Front → Type 0 = λ front. IsWithin sheets front.array in
      subst (All Within) (sym is) (All-map Within (λ (slot : Slot). front_in sheets slot.array) slots (λ k d below. (ready k d below).within))
