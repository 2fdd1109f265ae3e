-- The verdict of a row whose fields are found one behind another.
use Rattle.std.proofs.Common.{◌≡◌, ℕ, ◌+◌, ◌-◌, ◌<◌, ◌≤◌, List, [], ◌∷◌, map, take, drop, length, get_or, nat_lt, refl, sym, ◌∙◌, ap, subst, inl, inr, ◌⊎◌, false, true, arith, length-drop}
use Rattle.std.specs.Prelude.{Some, None, IsUtf8, unwrap_or, slice_range}
use Rattle.std.specs.Str.{is_utf8}
use Rattle.std.proofs.lemmas.Bool.{cases_lt}
use Rattle.std.proofs.lemmas.Bool.{le-ltb}
use Rattle.std.proofs.lemmas.List.{get_or-drop, get_or_past}
use Rattle.std.proofs.lemmas.List.Edits.{get_or-between, length-between}
use Rattle.std.proofs.lemmas.Str.{is_utf8-from_IsUtf8, IsUtf8-from_ascii}
use Rattle.byte_classes.specs.Dialect.{Marks}
use Rattle.quote_automaton.specs.RowEnd.{row_len}
use Rattle.row_fields.specs.Fields.{Field, fields, flaw}
use Rattle.row_fields.specs.Split.{row_from}
use Rattle.value_types.specs.declared.types.ColumnType.{ColumnType}
use Rattle.value_types.specs.Datum.{Datum, null}
use Rattle.column_store.specs.ChunkView.{ChunkView}
use Rattle.column_store.specs.RowsOfColumns.{HasNoTexts}
use Rattle.reject_book.specs.declared.reject.RowPlace.{RowPlace}
use Rattle.reject_book.specs.declared.reject.Schema.{Schema}
use Rattle.reject_book.specs.Casting.{bad_values, cell_at, times_bad}
use Rattle.reject_book.specs.Judged.{judged_whole}
use Rattle.reject_book.specs.Judging.{cells_of_fields, is_blank, verdict_of}
use Rattle.reject_book.proofs.CellsOfRow.{cell_is}
use Rattle.range_scan.specs.declared.context.Context.{Context}
use Rattle.range_scan.specs.FastRows.{cells_in, IsFastRow}
use Rattle.range_scan.specs.Pushed.{with_row, IsPushed}
use Rattle.range_scan.specs.Steps.{IsTextUpTo}
use Rattle.range_scan.proofs.NextRows.{end_is_small}
use Rattle.range_scan.proofs.PushedRows.{values_pushed}
use Rattle.range_scan.proofs.Texts.{row_is_text}

-- ---- the cells of all columns

module _ (schema : Schema) where
  -- they are the values, and each can be cast
  pub cells_are : (tys : List ColumnType) (fs : List Field) (cells : List Datum) → cells_in schema tys fs ≡ map Some cells → length cells ≡ length tys →
      (cells_of_fields schema tys fs ≡ cells) × (bad_values schema tys fs ≡ 0)
  cells_are [] fs [] are count = (refl, refl)
  cells_are [] fs (cell ∷ cells) are count = absurd (let n : ⊥ = omega (arith, count) in n)
  cells_are (ty ∷ tys) fs [] are count = absurd (let n : ⊥ = omega (arith, count) in n)
  cells_are (ty ∷ tys) [] (cell ∷ cells) are count = absurd (let n : ⊥ = cc in n)
  cells_are (ty ∷ tys) (f ∷ fs) (cell ∷ cells) are count =
      let this : cell_at schema ty (Some f) ≡ Some cell = cc in
      let others : cells_in schema tys fs ≡ map Some cells = cc in
      let more = cells_are tys fs cells others (omega (arith, count)) in
      ((λ i. (cell_is schema ty f ∙ ap (λ o. unwrap_or o null) this) i ∷ more.0 i), (λ i. times_bad (this i) + more.1 i))

-- ---- its verdict

not_blank : (schema : Schema) (row : List ℕ) → 0 < length row → is_blank schema row ≡ false
not_blank schema [] some = absurd (let n : ⊥ = omega (arith, some) in n)
not_blank schema (b ∷ row) some = refl

-- a row without any fault of a row as a whole
none_whole : (d : Marks) (schema : Schema) (place : RowPlace) (row : List ℕ) → 0 < length row → length row ≤ schema.max_line_size → IsUtf8 row → flaw d row ≡ None →
    length (fields d row) ≡ length schema.types → None ≡ judged_whole d schema place row
none_whole d schema place row some short text flawless count =
    let blank = not_blank schema row some in
    let size : nat_lt schema.max_line_size (length row) ≡ false = le-ltb schema.max_line_size (length row) short in
    let utf8 : is_utf8 row ≡ true = is_utf8-from_IsUtf8 row text in
    let few : nat_lt (length (fields d row)) (length schema.types) ≡ false = le-ltb (length (fields d row)) (length schema.types) (omega (arith, count)) in
    let many : nat_lt (length schema.types) (length (fields d row)) ≡ false = le-ltb (length schema.types) (length (fields d row)) (omega (arith, count)) in
    rw (blank, size, flawless, utf8, few, many) refl

module _ (context : Context) (bytes : List ℕ) (at len : ℕ) (within : at ≤ length bytes) (cells : List Datum)
    (is : IsFastRow context (drop at bytes) cells len) (count : length cells ≡ length context.schema.types) where
  abbrev text : List ℕ
  text = row_from context.dialect bytes at

  text_is : row_from context.dialect (drop at bytes) 0 ≡ text
  text_is =
      let n : ℕ = row_len context.dialect bytes at in
      let same : (0 + n) - 0 ≡ (at + n) - at = omega arith in
      ap (λ k. take k (drop at bytes)) same

  pub ends : at + len ≡ at + row_len context.dialect bytes at
  ends = ap (λ n. at + n) is.is_len

  pub high : at + len ≤ length bytes
  high = omega (arith, is.within, length-drop at bytes, within)

  row_long : length text ≡ len
  row_long = let until : at + row_len context.dialect bytes at ≤ length bytes = omega (arith, ends, high) in
      omega (arith, length-between bytes at (at + row_len context.dialect bytes at) until, ends)

  are : cells_in context.schema context.schema.types (fields context.dialect text) ≡ map Some cells
  are = subst (λ row. cells_in context.schema context.schema.types (fields context.dialect row) ≡ map Some cells) text_is is.are

  as_many : length (fields context.dialect text) ≡ length context.schema.types
  as_many = ap (λ row. length (fields context.dialect row)) (sym text_is) ∙ is.count ∙ count

  -- it is ASCII where no column holds texts
  pub ascii_text : HasNoTexts context.schema.types → IsUtf8 text
  ascii_text none = IsUtf8-from_ascii text (λ k. by_place k (cases_lt k len)) where
    by_place : (k : ℕ) → (k < len) ⊎ (len ≤ k) → get_or text k 0 < 128
    by_place k (inr behind) = subst (λ b. b < 128) (sym (get_or_past text k 0 (omega (arith, behind, row_long)))) (omega arith)
    by_place k (inl before) =
        let below : at + k < at + row_len context.dialect bytes at = omega (arith, before, ends) in
        subst (λ b. b < 128) (sym (get_or-between bytes at (at + row_len context.dialect bytes at) k 0 below ∙ sym (get_or-drop at bytes k 0))) (is.ascii none k before)

  -- and UTF-8 where the bytes are so up to its end
  pub known_text : (to : ℕ) → IsTextUpTo bytes at to → to ≤ length bytes → at + len ≤ to → IsUtf8 text
  known_text to known within_to until =
      subst (λ n. IsUtf8 (slice_range bytes at n)) ends
      (row_is_text bytes at (at + len) to known within_to (omega arith) (end_is_small context.dialect bytes at (at + len) ends) until)

  -- the row is pushed, where it is within the limit
  pub row_pushed : 0 < len → len ≤ context.schema.max_line_size → IsUtf8 text → (old new : ChunkView) → new ≡ with_row cells old → (place : RowPlace) →
      IsPushed (verdict_of context.dialect context.schema place text) 0 old new
  row_pushed some short known old new pushed place =
      let d = context.dialect in
      let both = cells_are context.schema context.schema.types (fields d text) cells are count in
      values_pushed d context.schema place text 0 old new
      (none_whole d context.schema place text (omega (arith, row_long, some)) (omega (arith, row_long, short)) known (ap (flaw d) (sym text_is) ∙ is.flawless) as_many)
      (sym both.1) (λ none. pushed ∙ (λ i. with_row (sym both.0 i) old), λ some. absurd (let n : ⊥ = omega (arith, some) in n))
