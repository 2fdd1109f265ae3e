-- Databases that are whole.
use Rattle.std.proofs.Common.{◌≡◌, ◌⊎◌, ℕ, zero, suc, ◌+◌, ◌-◌, ◌*◌, ◌^◌, ◌<◌, ◌≤◌, pos, List, [], ◌∷◌, ◌++◌, length, map, flat_map, sym, ◌∙◌, ap, subst, arith, inl, inr, length-append, nat_le, All, w64}
use Rattle.std.specs.Prelude.{IsSome, Option, Some, None, FitsSigned}
use Rattle.std.proofs.lemmas.Bool.{cases_lt, cond-false, lt-leb}
use Rattle.std.proofs.lemmas.Int.{fits_signed_from_abs}
use Rattle.std.proofs.lemmas.List.Elements.{All-cons, All-head, All-nil, All-tail}
use Rattle.sqlite_pages.specs.PageMap.{PageMap}
use Rattle.sqlite_value.specs.declared.value.Value.TheVariants.{Int}
use Rattle.sqlite_value.specs.Order.{Row}
use Rattle.sqlite_record.specs.Record.{IsBodyOf}
use Rattle.sqlite_record.proofs.SerialLemmas.{int_body, int_size}
use Rattle.sqlite_format.specs.Page.{right_child}
use Rattle.sqlite_btree.specs.Part.{all_pages}
use Rattle.db_records.specs.Record.{header_size, record_bytes, type_bytes, value_bytes}
use Rattle.db_records.proofs.Records.{record-size}
use Rattle.db_pages.specs.Grown.{TreeBytes, tree_of}
use Rattle.db_pages.specs.Image.{Tabled, first_page, image, list_row, listed, trees_bytes, with_lock_page}
use Rattle.db_pages.specs.Laid.{next_place}
use Rattle.db_pages.specs.Numbers.{number_of}
use Rattle.db_pages.proofs.LockPage.{long-size, short_as_is}
use Rattle.db_pages.proofs.Sizes.{varint-short}
use Rattle.db_pages.proofs.WholeTrees.{tree-whole}
use Rattle.db_reading.specs.Pages.{Stand, file_pages, page_at}
use Rattle.db_reading.specs.Tables.{IsStorable, list_rows}
use Rattle.db_reading.specs.Whole.{AreTables, HasTable, IsAllowed, IsSpanned, IsWholeDatabase}
use Rattle.db_reading.proofs.Files.{file-longer, file-stands, number-before, number-behind}
use Rattle.db_reading.proofs.FirstPage.{first-header, first-right, first-size}
use Rattle.db_reading.proofs.Images.{AreRead, image-is, image-read, image_bytes, listed-is, roots_of, trees-whole}
use Rattle.db_reading.proofs.Records.{records-some, types-most}
use Rattle.db_reading.proofs.Standing.{stand-back, stand-front, stand-next}
use Rattle.db_reading.proofs.WholeTables.{has-table}

abbrev AreStorable : Tabled → Type 0
AreStorable table = All IsStorable table.rows

records-small : (rows : List Row) → All (λ row. length (record_bytes row) < 2 ^ 31) rows → All (λ bytes. length bytes < 2 ^ 31) (map record_bytes rows)
records-small [] small = All-nil (λ bytes. length bytes < 2 ^ 31)
records-small (row ∷ rows) small =
    All-cons (λ bytes. length bytes < 2 ^ 31) (record_bytes row) (map record_bytes rows) (All-head (λ r. length (record_bytes r) < 2 ^ 31) row rows small)
    (records-small rows (All-tail (λ r. length (record_bytes r) < 2 ^ 31) row rows small))

-- the record of a table in the list of tables
list-small : (name sql : List ℕ) (place : ℕ) → 2 * length name + length sql < 2 ^ 30 → number_of place < 2 ^ 63 → length (record_bytes (list_row name sql place)) < 2 ^ 31
list-small name sql place few small =
    let row : Row = list_row name sql place in
    let root : List ℕ = value_bytes (Int (pos (number_of place))) in
    let fits : FitsSigned w64 (pos (number_of place)) = fits_signed_from_abs w64 (pos (number_of place)) small in
    let body : IsBodyOf root (Int (pos (number_of place))) = int_body (pos (number_of place)) fits in
    let one : length root ≤ 8 = omega (arith, body.size, (int_size (pos (number_of place))).0) in
    let values : length (flat_map value_bytes row) ≡ 5 + (length name + (length name + (length root + (length sql + 0)))) =
    omega (arith, length-append name (name ++ (root ++ (sql ++ []))), length-append name (root ++ (sql ++ [])), length-append root (sql ++ []), length-append sql []) in
    omega (arith, record-size row, varint-short (header_size (length (flat_map type_bytes row))), types-most row, values, one, few)

module _ (file : List ℕ) where
  are-tables : (base : ℕ) (tables : List Tabled) → 0 < base → All AreStorable tables → All IsAllowed tables → length (trees_bytes base tables) < 2 ^ 50 →
      Stand (all_pages (file_pages file)) base (trees_bytes base tables) → AreTables file base tables (roots_of base tables) (next_place base (trees_bytes base tables))
  are-tables base [] past storable allowed small stand = omega arith
  are-tables base (table ∷ tables) past storable allowed small stand =
      let pages : PageMap = file_pages file in
      let records : List (List ℕ) = map record_bytes table.rows in
      let tree : TreeBytes = tree_of base records in
      let next : ℕ = next_place base tree.bytes in
      let others : List ℕ = trees_bytes next tables in
      let longer : length (tree.bytes ++ others) ≡ length tree.bytes + length others = length-append tree.bytes others in
      let e : next_place next others ≡ next_place base (tree.bytes ++ others) = omega (arith, longer, tree-whole base records) in (
        next,
        has-table pages base records past (records-some table.rows (All-head AreStorable table tables storable)) (omega (arith, longer, small))
            (stand-front (all_pages pages) base tree.bytes others stand) (records-small table.rows (All-head IsAllowed table tables allowed).rows),
        subst (AreTables file next tables (roots_of next tables)) e
            (are-tables next tables (omega (arith, past)) (All-tail AreStorable table tables storable) (All-tail IsAllowed table tables allowed) (omega (arith, longer, small))
            (stand-next (all_pages pages) base tree.bytes others (tree-whole base records) stand)),
      )

-- the numbers of roots are small, since their pages lie in the file
listed-small : (base : ℕ) (tables : List Tabled) → All IsAllowed tables → All (λ root. root < 2 ^ 63) (roots_of base tables) → All (λ row. length (record_bytes row) < 2 ^ 31) (listed base tables)
listed-small base [] allowed small = All-nil (λ row. length (record_bytes row) < 2 ^ 31)
listed-small base (table ∷ tables) allowed small =
    let tree : TreeBytes = tree_of base (map record_bytes table.rows) in
    let next : ℕ = next_place base tree.bytes in
    All-cons (λ row. length (record_bytes row) < 2 ^ 31) (list_row table.name table.sql tree.root) (listed next tables)
    (list-small table.name table.sql tree.root (All-head IsAllowed table tables allowed).listed (All-head (λ root. root < 2 ^ 63) (number_of tree.root) (roots_of next tables) small))
    (listed-small next tables (All-tail IsAllowed table tables allowed) (All-tail (λ root. root < 2 ^ 63) (number_of tree.root) (roots_of next tables) small))

-- a number within a file is that of the first page, of the page of the locks, or of a page at a place behind the first
not-none : (page : Option (List ℕ)) → page ≡ None → IsSome page → ⊥
not-none None is some = let no : ⊥ = cc in no
not-none (Some page) is some = let no : ⊥ = cc in no

live-within : (file : List ℕ) (number : ℕ) → IsSome (file_pages file number) → (0 < number) × (4096 * number ≤ length file)
live-within file zero some = absurd (let no : ⊥ = cc in no)
live-within file (suc before) some =
    elim (cases_lt (length file) (4096 * (before + 1))) [
      | inl past ↦
          let none : file_pages file (suc before) ≡ None = cond-false (nat_le (4096 * (before + 1)) (length file)) (Some (page_at file before)) None (lt-leb (4096 * (before + 1)) (length file) past) in
          absurd (not-none (file_pages file (suc before)) none some)
      | inr within ↦ (omega arith, omega (arith, within))
    ]

spanned-at : (end place number : ℕ) → number ≡ number_of place → place < end → (number ≡ 1) ⊎ ((number ≡ 262145) ⊎ IsSpanned 1 end number)
spanned-at end zero number is less = inl is
spanned-at end (suc place) number is less = inr (inr (suc place, omega arith, less, is))

cover : (bytes : List ℕ) (end number : ℕ) → length bytes ≡ 4096 * end → IsSome (file_pages (with_lock_page bytes) number) → (number ≡ 1) ⊎ ((number ≡ 262145) ⊎ IsSpanned 1 end number)
cover bytes end number whole some =
    let live = live-within (with_lock_page bytes) number some in
    elim (cases_lt (2 ^ 30) (length bytes)) [
      | inl long ↦
          let size : length (with_lock_page bytes) ≡ length bytes + 4096 = long-size bytes long in
          elim (cases_lt number 262145) [
            | inl low ↦
                let e : suc (number - 1) ≡ number = omega (arith, live.0) in
                spanned-at end (number - 1) number (sym (number-before (number - 1) (omega (arith, low)) ∙ e)) (omega (arith, low, long, whole, live.0))
            | inr high ↦
                elim (cases_lt 262145 number) [
                  | inl past ↦
                      let e : suc (number - 2 + 1) ≡ number = omega (arith, past) in
                      spanned-at end (number - 2) number (sym (number-behind (number - 2) (omega (arith, past)) ∙ e)) (omega (arith, live.1, size, whole, past))
                  | inr at ↦ inr (inl (omega (arith, high, at)))
                ]
          ]
      | inr short ↦
          let size : length (with_lock_page bytes) ≡ length bytes = ap length (short_as_is bytes short) in
          let e : suc (number - 1) ≡ number = omega (arith, live.0) in
          spanned-at end (number - 1) number (sym (number-before (number - 1) (omega (arith, live.1, size, short)) ∙ e)) (omega (arith, live.0, live.1, size, whole))
    ]

pub image-whole : (tables : List Tabled) → All AreStorable tables → All IsAllowed tables → length (image tables) < 2 ^ 50 → IsWholeDatabase (image tables) tables
image-whole tables storable allowed short =
    let file : List ℕ = image tables in
    let pages : PageMap = file_pages file in
    let r : AreRead file short tables = image-read tables storable short in
    let trees : List ℕ = trees_bytes 1 tables in
    let behind : ℕ = next_place 1 trees in
    let records : List (List ℕ) = map record_bytes (listed 1 tables) in
    let list : TreeBytes = tree_of behind records in
    let end : ℕ = next_place behind list.bytes in
    let first : List ℕ = first_page (number_of (end - 1)) (number_of list.root) in
    let size : length first ≡ 4096 = first-size (number_of (end - 1)) (number_of list.root) in
    let longer : length (image_bytes tables) ≡ length first + (length trees + length list.bytes) =
    length-append first (trees ++ list.bytes) ∙ ap (λ n. length first + n) (length-append trees list.bytes) in
    let small : length (image_bytes tables) < 2 ^ 50 = omega (arith, file-longer (image_bytes tables), ap length (image-is tables), short) in
    let stand : Stand (all_pages pages) 0 (first ++ (trees ++ list.bytes)) =
    subst (λ f. Stand (all_pages (file_pages f)) 0 (image_bytes tables)) (sym (image-is tables)) (file-stands (image_bytes tables)) in
    let past-first : Stand (all_pages pages) 1 (trees ++ list.bytes) = stand-back (all_pages pages) 0 1 first (trees ++ list.bytes) size stand in
    let are : AreTables file 1 tables (roots_of 1 tables) behind =
    are-tables file 1 tables (omega arith) storable allowed (omega (arith, longer, small)) (stand-front (all_pages pages) 1 trees list.bytes past-first) in
    let rows-small : All (λ row. length (record_bytes row) < 2 ^ 31) (listed 1 tables) = listed-small 1 tables allowed r.roots-small in
    let has : HasTable pages behind end (number_of list.root) records =
    has-table pages behind records (omega arith) (records-some (listed 1 tables) r.storable) (omega (arith, longer, small))
    (stand-next (all_pages pages) 1 trees list.bytes (trees-whole 1 tables) past-first) (records-small (listed 1 tables) rows-small) in
    let same : listed 1 tables ≡ list_rows tables r.holds.roots = listed-is 1 tables ∙ ap (list_rows tables) (sym r.roots-are) in
    record {
      holds = r.holds;
      behind = behind;
      trees = subst (λ roots. AreTables file 1 tables roots behind) (sym r.roots-are) are;
      end = end;
      root = number_of list.root;
      list = subst (λ rows. HasTable pages behind end (number_of list.root) (map record_bytes rows)) same has;
      leads = ap (λ k. right_child (all_pages pages 1) k) first-header ∙ ap (λ p. right_child p 100) r.leads ∙ first-right r.count (number_of list.root);
      pages = λ number live.
          cover (image_bytes tables) end number (omega (arith, longer, size, trees-whole 1 tables, tree-whole behind records))
          (subst (λ f. IsSome (file_pages f number)) (image-is tables) live);
    }
