-- Rows that are laid out one after another.
use Rattle.std.proofs.Common.{◌≡◌, ℕ, zero, suc, ◌+◌, ◌-◌, ◌<◌, ◌≤◌, List, [], ◌∷◌, ◌++◌, length, map, take, drop, get_or, sym, ◌∙◌, ap, arith, append_assoc, append-nil, length-append, All, Some}
use Rattle.std.specs.Prelude.{flat_map, slice_get, slice_range}
use Rattle.sqlite_value.specs.declared.value.Value.{Value}
use Rattle.sqlite_value.specs.Order.{Row}
use Rattle.value_types.specs.Datum.{Datum}
use Rattle.std.proofs.lemmas.List.{map-append}
use Rattle.std.proofs.lemmas.List.Elements.{All-nil, All-push}
use Rattle.std.proofs.lemmas.Grind.{flat_map-append}
use Rattle.db_pages.proofs.Rows.{with_rows-append}
use Rattle.text_pieces.proofs.Ranges.{range-more, range-append}
use Rattle.db_records.specs.Record.{type_bytes, value_bytes, record_bytes, record_of, IsWritable}
use Rattle.db_writer.specs.Stored.{stored_cell, stored_row}
use Rattle.db_writer.specs.Written.{Values, Written, no_values, with_value, with_values, with_records, records_of}

-- ---- values

-- one value's bytes more
more : (f : Value → List ℕ) (front : List ℕ) (row : Row) (value : Value) → (front ++ flat_map f row) ++ f value ≡ front ++ flat_map f (row ++ value ∷ [])
more f front row value =
    append_assoc front (flat_map f row) (f value)
    ∙ ap (λ xs. front ++ xs) (ap (λ xs. flat_map f row ++ xs) (sym (append-nil (f value))) ∙ sym (flat_map-append f row (value ∷ [])))

values-more : (w : Written) (row : Row) (value : Value) → with_value (with_values w row) value ≡ with_values w (row ++ value ∷ [])
values-more w row value =
    λ i. record { rows = w.rows; next = w.next; values = record { types = more type_bytes w.values.types row value i; body = more value_bytes w.values.body row value i } }

-- a value was appended to those before
pub one-more : (w into new : Written) (row : Row) (value : Value) → into ≡ with_values w row → new ≡ with_value into value → new ≡ with_values w (row ++ value ∷ [])
one-more w into new row value before one = one ∙ ap (λ v. with_value v value) before ∙ values-more w row value

-- values that were appended, of which each can be written
pub record HasPushed (w into : Written) (row : Row) : Type 0 where
  pub rows : into ≡ with_values w row
  pub writable : All IsWritable row

pub none-pushed : (w : Written) → HasPushed w w []
none-pushed w = record {
  rows = λ i. record { rows = w.rows; next = w.next; values = record { types = sym (append-nil w.values.types) i; body = sym (append-nil w.values.body) i } };
  writable = All-nil IsWritable;
}

pub one-pushed : (w into new : Written) (row : Row) (value : Value) → HasPushed w into row → new ≡ with_value into value → IsWritable value → HasPushed w new (row ++ value ∷ [])
one-pushed w into new row value before one can = record { rows = one-more w into new row value before.rows one; writable = All-push IsWritable row value before.writable can }

-- a row under way whose values are all there was ended
pub row-ended : (w into new : Written) (row : Row) → w.values ≡ no_values → into ≡ with_values w row →
    new ≡ with_records into (record_of into.values.types into.values.body ∷ []) → new ≡ with_records w (record_bytes row ∷ [])
row-ended w into new row none before ended =
    ended ∙ ap (λ (v : Written). with_records v (record_of v.values.types v.values.body ∷ [])) before
    ∙ ap (λ (v : Values). with_records w (record_of (v.types ++ flat_map type_bytes row) (v.body ++ flat_map value_bytes row) ∷ [])) none

take-suc : {X : Type 0} (xs : List X) (k : ℕ) (x : X) → slice_get xs k ≡ Some x → take (suc k) xs ≡ take k xs ++ x ∷ []
take-suc [] k x at = absurd (let no : ⊥ = cc in no)
take-suc (y ∷ xs) zero x at = let same : y ≡ x = cc in ap (λ z. z ∷ []) same
take-suc (y ∷ xs) (suc k) x at = ap (λ rest. y ∷ rest) (take-suc xs k x at)

-- the things before a place, and the one that stands there
pub take-at : {X : Type 0} (xs : List X) (k : ℕ) (x : X) → slice_get xs k ≡ Some x → take (k + 1) xs ≡ take k xs ++ x ∷ []
take-at xs k x at = let next : k + 1 ≡ suc k = omega arith in ap (λ n. take n xs) next ∙ take-suc xs k x at

drop-suc : {X : Type 0} (xs : List X) (k : ℕ) (x : X) → slice_get xs k ≡ Some x → drop k xs ≡ x ∷ drop (suc k) xs
drop-suc [] k x at = absurd (let no : ⊥ = cc in no)
drop-suc (y ∷ xs) zero x at = let same : y ≡ x = cc in ap (λ z. z ∷ xs) same
drop-suc (y ∷ xs) (suc k) x at = drop-suc xs k x at

-- the things from a place on
pub drop-at : {X : Type 0} (xs : List X) (k : ℕ) (x : X) → slice_get xs k ≡ Some x → drop k xs ≡ x ∷ drop (k + 1) xs
drop-at xs k x at = let next : suc k ≡ k + 1 = omega arith in drop-suc xs k x at ∙ ap (λ n. x ∷ drop n xs) next

-- a cell was appended to those before
pub cell-appended : (w into new : Written) (cells : List Datum) (k : ℕ) (cell : Datum) → slice_get cells k ≡ Some cell → into ≡ with_values w (stored_row (take k cells)) →
    new ≡ with_value into (stored_cell cell) → new ≡ with_values w (stored_row (take (k + 1) cells))
cell-appended w into new cells k cell at before one =
    one-more w into new (stored_row (take k cells)) (stored_cell cell) before one
    ∙ ap (with_values w) (sym (map-append stored_cell (take k cells) (cell ∷ [])) ∙ ap stored_row (sym (take-at cells k cell at)))

-- ---- rows

pub records-append : (w : Written) (records more : List (List ℕ)) → with_records (with_records w records) more ≡ with_records w (records ++ more)
records-append w records more =
    let count : w.next + length records + length more ≡ w.next + length (records ++ more) = omega (arith, length-append records more) in
    λ i. record { rows = record { base = w.rows.base; laid = with_rows-append w.rows.base w.next w.rows.laid records more i }; next = count i; values = no_values }

pub records_of-append : (rows more : List (List Datum)) → records_of (rows ++ more) ≡ records_of rows ++ records_of more
records_of-append rows more = ap (map record_bytes) (map-append stored_row rows more) ∙ map-append record_bytes (map stored_row rows) (map stored_row more)

-- a row was appended to those before
pub row-appended : (w into new : Written) (rows : List (List Datum)) (first row : ℕ) → first ≤ row → row < length rows →
    into ≡ with_records w (records_of (slice_range rows first row)) → new ≡ with_records into (record_bytes (stored_row (get_or rows row [])) ∷ []) →
    new ≡ with_records w (records_of (slice_range rows first (row + 1)))
row-appended w into new rows first row ordered within before one =
    one ∙ ap (λ v. with_records v (record_bytes (stored_row (get_or rows row [])) ∷ [])) before
    ∙ records-append w (records_of (slice_range rows first row)) (record_bytes (stored_row (get_or rows row [])) ∷ [])
    ∙ ap (with_records w) (sym (records_of-append (slice_range rows first row) (get_or rows row [] ∷ [])) ∙ ap records_of (sym (range-more rows first row [] ordered within)))

-- those rows of a chunk were appended, and those of the rows behind it follow
pub part-appended : (rows more : List (List Datum)) (low high low' high' : ℕ) (into new : Written) → low ≤ high → low' ≡ low - length rows → high' ≡ high - length rows →
    new ≡ with_records into (records_of (slice_range rows low high)) →
    with_records new (records_of (slice_range more low' high')) ≡ with_records into (records_of (slice_range (rows ++ more) low high))
part-appended rows more low high low' high' into new ordered less_low less_high part =
    (λ i. with_records (part i) (records_of (slice_range more (less_low i) (less_high i))))
    ∙ records-append into (records_of (slice_range rows low high)) (records_of (slice_range more (low - length rows) (high - length rows)))
    ∙ ap (with_records into)
    (sym (records_of-append (slice_range rows low high) (slice_range more (low - length rows) (high - length rows)))
    ∙ ap records_of (sym (range-append rows more low high ordered)))
