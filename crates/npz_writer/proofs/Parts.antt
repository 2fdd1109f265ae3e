-- The bytes of an array's cells, in parts.
use Rattle.std.proofs.Common.{◌≡◌, ℕ, zero, suc, ◌+◌, ◌-◌, ◌%◌, ◌^◌, ◌<◌, ◌≤◌, Bool, true, false, List, [], ◌∷◌, ◌++◌, length, map, get_or, take, drop, refl, sym, ap, ◌∙◌, arith}
use Rattle.std.specs.Prelude.{flat_map, slice_range, if◌then◌else◌}
use Rattle.std.specs.List.{range_with_len}
use Rattle.std.proofs.Math.Seq.{take-add}
use Rattle.std.proofs.lemmas.List.{drop-drop, drop-map, get_or-map, length-map, map-append, same_lists, take-map}
use Rattle.std.proofs.lemmas.List.Concat.{flat_map-append}
use Rattle.std.proofs.lemmas.List.Edits.{get_or-between, length-between}
use Rattle.std.proofs.lemmas.Slice.{between_is}
use Rattle.std.proofs.lemmas.List.FromFn.{get_or-map-range_with_len, length-map-range_with_len}
use Rattle.value_types.specs.Datum.{Datum, null, typed, text}
use Rattle.value_types.specs.declared.types.ColumnType.{ColumnType}
use Rattle.value_types.specs.declared.types.Value.TheVariants as values
use Rattle.value_types.specs.declared.views.ColumnView.{ColumnView}
use Rattle.value_types.specs.declared.views.ColumnView.TheVariants as views
use Rattle.value_types.specs.Marked.{marked}
use Rattle.value_types.specs.Packed.{numbers_in}
use Rattle.value_types.specs.Views.{HasRows, nulls_in, view_cells}
use Rattle.npz_writer.specs.declared.part.Part.{Part}
use Rattle.npz_writer.specs.declared.part.Part.TheVariants.{Values, Ends, Nulls}
use Rattle.npz_writer.specs.Arrays.{bytes_from, cell_bytes, ends_from, is_null, null_bytes, text_in, truth_byte}
use Rattle.npz_writer.specs.Blocks.{end_of, unmarked}
use Rattle.npz_writer.proofs.Stored.{ends_from-append, place_bytes, wrapped}

-- ---- cells one behind another

pub bytes_from-append : (ty : ColumnType) (part : Part) (begin : ℕ) (xs ys : List Datum) → bytes_from ty part begin (xs ++ ys) ≡ bytes_from ty part begin xs ++ bytes_from ty part (end_of begin xs) ys
bytes_from-append ty Values begin xs ys = flat_map-append (cell_bytes ty) xs ys
bytes_from-append ty Ends begin xs ys = ap (flat_map place_bytes) (ends_from-append begin xs ys) ∙ flat_map-append place_bytes (ends_from begin xs) (ends_from (end_of begin xs) ys)
bytes_from-append ty Nulls begin xs ys = map-append (λ (cell : Datum). truth_byte (is_null cell)) xs ys

-- places count in 64 bits alone
pub ends_wrapped : (begin other : ℕ) (cells : List Datum) → begin ≡ other % 2 ^ 64 → flat_map place_bytes (ends_from begin cells) ≡ flat_map place_bytes (ends_from other cells)
ends_wrapped begin other cells is = same begin other cells (let both : begin % 2 ^ 64 ≡ other % 2 ^ 64 = omega (arith, is) in both) where
  same : (begin other : ℕ) (cells : List Datum) → begin % 2 ^ 64 ≡ other % 2 ^ 64 → flat_map place_bytes (ends_from begin cells) ≡ flat_map place_bytes (ends_from other cells)
  same begin other [] both = refl
  same begin other (cell ∷ cells) both =
      let one : ℕ = begin + length (text_in cell) in
      let two : ℕ = other + length (text_in cell) in
      let next : one % 2 ^ 64 ≡ two % 2 ^ 64 = omega (arith, both) in
      let first : place_bytes one ≡ place_bytes two = sym (wrapped one) ∙ ap place_bytes next ∙ wrapped two in
      λ i. first i ++ same one two cells next i

-- ---- some rows of many

module _ {X : Type 0} where
  -- the rows up to a place, and those behind it
  pub cut_at : (xs : List X) (from to end : ℕ) → from ≤ to → to ≤ end → drop from (take end xs) ≡ slice_range xs from to ++ drop to (take end xs)
  cut_at xs from to end low high =
      let whole : drop from (take end xs) ≡ slice_range xs from end = sym (between_is xs from end) in
      let rest : drop to (take end xs) ≡ slice_range xs to end = sym (between_is xs to end) in
      let sizes : end - from ≡ (to - from) + (end - to) = omega (arith, low, high) in
      let there : from + (to - from) ≡ to = omega (arith, low) in
      whole ∙ ap (λ n. take n (drop from xs)) sizes ∙ take-add (to - from) (end - to) (drop from xs)
      ∙ ap (λ ys. slice_range xs from to ++ take (end - to) ys) (drop-drop (to - from) from xs ∙ ap (λ n. drop n xs) there)
      ∙ ap (λ ys. slice_range xs from to ++ ys) (sym rest)

  pub map-slice_range : {Y : Type 0} (f : X → Y) (xs : List X) (from to : ℕ) → map f (slice_range xs from to) ≡ slice_range (map f xs) from to
  map-slice_range f xs from to = sym (take-map f (to - from) (drop from xs)) ∙ ap (take (to - from)) (sym (drop-map f from xs))

  flat_map_is : (f : X → List ℕ) (xs : List X) → flat_map f xs ≡ flat_map (λ bytes. bytes) (map f xs)
  flat_map_is f [] = refl
  flat_map_is f (x ∷ xs) = ap (λ rest. f x ++ rest) (flat_map_is f xs)

  -- the same rows of two lists that have the same bytes
  pub same_slices : {Y : Type 0} (f : X → List ℕ) (g : Y → List ℕ) (xs : List X) (ys : List Y) (from to : ℕ) → map f xs ≡ map g ys → flat_map f (slice_range xs from to) ≡ flat_map (λ bytes. bytes) (slice_range (map g ys) from to)
  same_slices f g xs ys from to same = flat_map_is f (slice_range xs from to) ∙ ap (flat_map (λ bytes. bytes)) (map-slice_range f xs from to ∙ ap (λ zs. slice_range zs from to) same)

-- the bytes of rows, by what they are made of
pub bytes_of_slices : {Y : Type 0} (f : Datum → List ℕ) (g : Y → List ℕ) (xs : List Datum) (ys : List Y) (from to : ℕ) → map f xs ≡ map g ys → flat_map g (slice_range ys from to) ≡ flat_map f (slice_range xs from to)
bytes_of_slices f g xs ys from to same = same_slices g g ys ys from to refl ∙ sym (same_slices f g xs ys from to same)

-- ---- values that are marked as null

module _ {A : Type 0} (cell : A → Datum) (bytes_of : A → List ℕ) (ty : ColumnType) (other : A) (same : (value : A) → cell_bytes ty (cell value) ≡ bytes_of value) (same_null : null_bytes ty ≡ bytes_of other) where
  one : (is_null : Bool) (value : A) → cell_bytes ty (if is_null then null else cell value) ≡ bytes_of (if is_null then other else value)
  one true value = same_null
  one false value = same value

  pub marked_bytes : (nulls : List Bool) (values : List A) → map (cell_bytes ty) (marked cell nulls values) ≡ map bytes_of (unmarked other nulls values)
  marked_bytes nulls [] = refl
  marked_bytes [] (v ∷ values) = λ i. same v i ∷ marked_bytes [] values i
  marked_bytes (n ∷ nulls) (v ∷ values) = λ i. one n v i ∷ marked_bytes nulls values i

-- ---- null marks

module _ {A : Type 0} (cell : A → Datum) (not_null : (value : A) → is_null (cell value) ≡ false) where
  mark_is : (mark : Bool) (value : A) → is_null (if mark then null else cell value) ≡ mark
  mark_is true value = refl
  mark_is false value = not_null value

  marked_nulls : (nulls : List Bool) (values : List A) (row : ℕ) → row < length values → is_null (get_or (marked cell nulls values) row null) ≡ get_or nulls row false
  marked_nulls nulls [] row within = absurd (let no : ⊥ = omega (arith, within) in no)
  marked_nulls [] (v ∷ values) zero within = not_null v
  marked_nulls [] (v ∷ values) (suc row) within = marked_nulls [] values row (omega (arith, within))
  marked_nulls (n ∷ nulls) (v ∷ values) zero within = mark_is n v
  marked_nulls (n ∷ nulls) (v ∷ values) (suc row) within = marked_nulls nulls values row (omega (arith, within))

pub null_at : (view : ColumnView) (rows row : ℕ) → HasRows rows view → row < rows → is_null (get_or (view_cells view) row null) ≡ get_or (nulls_in view) row false
null_at (views.Boolean nulls column) rows row long within = marked_nulls (λ b. typed (values.Bool b)) (λ _. refl) nulls.now column.now row (omega (arith, long, within))
null_at (views.Bigint column) rows row long within = marked_nulls (λ n. typed (values.Int n)) (λ _. refl) column.nulls.now (numbers_in column.values) row (omega (arith, long, within))
null_at (views.Date nulls column) rows row long within = marked_nulls (λ n. typed (values.Date n)) (λ _. refl) nulls.now column.now row (omega (arith, long, within))
null_at (views.Time nulls column) rows row long within = marked_nulls (λ n. typed (values.Time n)) (λ _. refl) nulls.now column.now row (omega (arith, long, within))
null_at (views.Timestamp nulls column) rows row long within = marked_nulls (λ n. typed (values.Stamp n)) (λ _. refl) nulls.now column.now row (omega (arith, long, within))
null_at (views.Varchar nulls texts) rows row long within = marked_nulls text (λ _. refl) nulls.now texts.now row (omega (arith, long, within))

-- the marks of some rows
pub marks_are : (cells : List Datum) (nulls : List Bool) (from to : ℕ) → from ≤ to → to ≤ length cells → ((row : ℕ) → row < to → is_null (get_or cells row null) ≡ get_or nulls row false)
    → map (λ row. truth_byte (get_or nulls row false)) (range_with_len from (to - from)) ≡ map (λ cell. truth_byte (is_null cell)) (slice_range cells from to)
marks_are cells nulls from to low high each =
    let byte_at : ℕ → ℕ = λ row. truth_byte (get_or nulls row false) in
    let byte_of : Datum → ℕ = λ cell. truth_byte (is_null cell) in
    let rows : List Datum = slice_range cells from to in
    let count : length rows ≡ to - from = length-between cells from to high in
    same_lists (map byte_at (range_with_len from (to - from))) (map byte_of rows) (length-map-range_with_len byte_at from (to - from) ∙ sym (length-map rows byte_of ∙ count))
    (λ k d below.
    let here : k < to - from = omega (arith, below, length-map-range_with_len byte_at from (to - from)) in
    get_or-map-range_with_len byte_at from (to - from) k (from + k) d here refl
    ∙ ap truth_byte (sym (each (from + k) (omega (arith, here))))
    ∙ sym (get_or-map byte_of rows k null d (omega (arith, here, count)) ∙ ap byte_of (get_or-between cells from to k null (omega (arith, here)))))
