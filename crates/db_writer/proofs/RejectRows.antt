-- Rows of scans and rejects, one after another.
use Rattle.std.proofs.Common.{◌≡◌, ℕ, suc, ◌+◌, ◌<◌, List, [], ◌∷◌, ◌++◌, length, map, take, drop, get_or, sym, ◌∙◌, ap, arith, append-nil, drop-cons, subst, All, Some}
use Rattle.std.specs.Prelude.{Bool, true, false, if◌then◌else◌, slice_get}
use Rattle.std.specs.Str.{is_utf8}
use Rattle.std.proofs.lemmas.List.{map-append, take_more}
use Rattle.std.proofs.lemmas.List.Elements.{All-append, All-cons, All-push}
use Rattle.std.proofs.lemmas.Grind.{flat_map-append}
use Rattle.sqlite_value.specs.declared.value.Value.TheVariants as stored
use Rattle.sqlite_value.specs.Order.{Row}
use Rattle.csv_sniffer.specs.declared.found.Sniffed.{Sniffed}
use Rattle.file_list.specs.declared.batch.FileBook.{FileBook}
use Rattle.db_records.specs.Record.{IsWritable, record_bytes}
use Rattle.db_writer.specs.Rejects.{reject_row, reject_rows, scan_row, scan_rows}
use Rattle.db_writer.specs.Stored.{text_or_blob}
use Rattle.db_writer.specs.Written.{Written, with_records}
use Rattle.db_writer.proofs.RowsLaid.{records-append, take-at}

-- what is UTF-8 is stored as a text, and what isn't as a blob
bytes-stored : (utf8 : Bool) (bytes : List ℕ) → IsWritable (if utf8 then stored.Text bytes else stored.Blob bytes)
bytes-stored true bytes = tt
bytes-stored false bytes = tt

pub bytes-writable : (bytes : List ℕ) → IsWritable (text_or_blob bytes)
bytes-writable bytes = bytes-stored (is_utf8 bytes) bytes

-- the row of one thing was appended to those before
pub one-appended : {X : Type 0} (f : X → Row) (xs : List X) (k : ℕ) (x : X) (w into new : Written) → slice_get xs k ≡ Some x → into ≡ with_records w (map record_bytes (map f (take k xs))) →
    new ≡ with_records into (record_bytes (f x) ∷ []) → new ≡ with_records w (map record_bytes (map f (take (k + 1) xs)))
one-appended f xs k x w into new at before one =
    one ∙ ap (λ v. with_records v (record_bytes (f x) ∷ [])) before ∙ records-append w (map record_bytes (map f (take k xs))) (record_bytes (f x) ∷ [])
    ∙ ap (with_records w)
    (sym (map-append record_bytes (map f (take k xs)) (f x ∷ [])) ∙ ap (map record_bytes) (sym (map-append f (take k xs) (x ∷ [])) ∙ ap (map f) (sym (take-at xs k x at))))

-- the rejects of a file were appended to those of the files before
pub file-appended : (files : List FileBook) (k : ℕ) (file : FileBook) (w into new : Written) → k < length files → file ≡ get_or files k file → into ≡ with_records w (map record_bytes (reject_rows (take k files))) →
    new ≡ with_records into (map record_bytes (map reject_row file.book.stored)) → new ≡ with_records w (map record_bytes (reject_rows (take (k + 1) files)))
file-appended files k file w into new within is before one =
    let front : List Row = reject_rows (take k files) in
    let rows : List Row = map reject_row file.book.stored in
    one ∙ ap (λ v. with_records v (map record_bytes rows)) before ∙ records-append w (map record_bytes front) (map record_bytes rows)
    ∙ ap (with_records w)
    (sym (map-append record_bytes front rows)
    ∙ ap (map record_bytes)
    (ap (λ xs. front ++ xs) (sym (append-nil rows)) ∙ sym (flat_map-append (λ (f : FileBook). map reject_row f.book.stored) (take k files) (file ∷ []))
    ∙ ap (λ f. reject_rows (take k files ++ f ∷ [])) is ∙ ap reject_rows (sym (take_more files k file within))))

-- a scan was appended, and those of the files behind it follow
pub scan-appended : (s : Sniffed) (files : List FileBook) (k : ℕ) (file : FileBook) (name : List ℕ) (into new : Written) (whole : Written) → k < length files → file ≡ get_or files k file → name ≡ file.name →
    new ≡ with_records into (record_bytes (scan_row s k name) ∷ []) → with_records into (map record_bytes (scan_rows s k (drop k files))) ≡ whole →
    with_records new (map record_bytes (scan_rows s (k + 1) (drop (k + 1) files))) ≡ whole
scan-appended s files k file name into new whole within is named one before =
    let next : suc k ≡ k + 1 = omega arith in
    let rest : List FileBook = drop (k + 1) files in
    let left : drop k files ≡ file ∷ rest = drop-cons files k file within ∙ ap (λ f. f ∷ drop (suc k) files) (sym is) ∙ ap (λ n. file ∷ drop n files) next in
    ap (λ v. with_records v (map record_bytes (scan_rows s (k + 1) rest))) (one ∙ ap (λ n. with_records into (record_bytes (scan_row s k n) ∷ [])) named)
    ∙ records-append into (record_bytes (scan_row s k file.name) ∷ []) (map record_bytes (scan_rows s (k + 1) rest))
    ∙ ap (λ fs. with_records into (map record_bytes (scan_rows s k fs))) (sym left)
    ∙ before

-- the same of the numbers of rows
pub one-counted : {X : Type 0} (f : X → Row) (xs : List X) (k : ℕ) (x : X) → slice_get xs k ≡ Some x → All (All IsWritable) (map f (take k xs)) → All IsWritable (f x) →
    All (All IsWritable) (map f (take (k + 1) xs))
one-counted f xs k x at before one =
    subst (λ ys. All (All IsWritable) (map f ys)) (sym (take-at xs k x at))
    (subst (All (All IsWritable)) (sym (map-append f (take k xs) (x ∷ []))) (All-push (All IsWritable) (map f (take k xs)) (f x) before one))

pub file-counted : (files : List FileBook) (k : ℕ) (file : FileBook) → k < length files → file ≡ get_or files k file → All (All IsWritable) (reject_rows (take k files)) →
    All (All IsWritable) (map reject_row file.book.stored) → All (All IsWritable) (reject_rows (take (k + 1) files))
file-counted files k file within is before one =
    let rows : List Row = map reject_row file.book.stored in
    let grown : reject_rows (take (k + 1) files) ≡ reject_rows (take k files) ++ rows =
    ap reject_rows (take_more files k file within) ∙ ap (λ f. reject_rows (take k files ++ f ∷ [])) (sym is)
    ∙ flat_map-append (λ (f : FileBook). map reject_row f.book.stored) (take k files) (file ∷ []) ∙ ap (λ xs. reject_rows (take k files) ++ xs) (append-nil rows) in
    subst (All (All IsWritable)) (sym grown) (All-append (All IsWritable) (reject_rows (take k files)) rows before one)

pub scan-counted : (s : Sniffed) (files : List FileBook) (k : ℕ) (file : FileBook) (name : List ℕ) → k < length files → file ≡ get_or files k file → name ≡ file.name →
    All IsWritable (scan_row s k name) → (All (All IsWritable) (scan_rows s k (drop k files)) → All (All IsWritable) (scan_rows s 0 files)) →
    All (All IsWritable) (scan_rows s (k + 1) (drop (k + 1) files)) → All (All IsWritable) (scan_rows s 0 files)
scan-counted s files k file name within is named one whole others =
    let next : suc k ≡ k + 1 = omega arith in
    let left : drop k files ≡ file ∷ drop (k + 1) files = drop-cons files k file within ∙ ap (λ f. f ∷ drop (suc k) files) (sym is) ∙ ap (λ n. file ∷ drop n files) next in
    whole (subst (λ fs. All (All IsWritable) (scan_rows s k fs)) (sym left)
    (All-cons (All IsWritable) (scan_row s k file.name) (scan_rows s (k + 1) (drop (k + 1) files)) (subst (λ n. All IsWritable (scan_row s k n)) named one) others))
