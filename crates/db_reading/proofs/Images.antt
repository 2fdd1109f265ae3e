-- Databases, as they are read.
use Rattle.std.proofs.Common.{◌≡◌, ℕ, zero, suc, ◌+◌, ◌-◌, ◌*◌, ◌%◌, ◌^◌, ◌<◌, ◌≤◌, pos, List, [], ◌∷◌, ◌++◌, length, map, refl, sym, ◌∙◌, ap, subst, arith, inl, inr, length-append, nat_le, All, w64}
use Rattle.std.specs.Prelude.{codes, Option, Some, None, unwrap_or, FitsSigned}
use Rattle.std.proofs.lemmas.Bool.{cases_lt, cond-false, lt-leb}
use Rattle.std.proofs.lemmas.Int.{fits_signed_from_abs}
use Rattle.std.proofs.lemmas.List.Elements.{All-cons, All-head, All-nil, All-tail}
use Rattle.sqlite_pages.specs.PageMap.{PageMap}
use Rattle.sqlite_value.specs.declared.value.Value.TheVariants.{Int, Text}
use Rattle.sqlite_value.specs.Order.{Row}
use Rattle.sqlite_record.specs.Record.{decode}
use Rattle.sqlite_btree.specs.Part.{all_pages}
use Rattle.sqlite_btree.specs.Chain.{Entry}
use Rattle.sqlite_btree.specs.Stored.{rowid_of}
use Rattle.db_records.specs.Record.{IsWritable, record_bytes}
use Rattle.db_pages.specs.Grown.{TreeBytes, tree_of}
use Rattle.db_pages.specs.Image.{Tabled, first_page, image, image_over, listed, trees_bytes, with_lock_page}
use Rattle.db_pages.specs.Laid.{next_place}
use Rattle.db_pages.specs.Numbers.{number_of}
use Rattle.db_pages.proofs.WholeTrees.{tree-whole}
use Rattle.db_reading.specs.Entries.{row_entries}
use Rattle.db_reading.specs.Pages.{Stand, file_pages, page_at}
use Rattle.db_reading.specs.Tables.{AreUnder, HoldsTables, IsStorable, list_rows, numbered, rows_at}
use Rattle.db_reading.proofs.Files.{file-longer, file-stands}
use Rattle.db_reading.proofs.FirstPage.{first-reads, first-size}
use Rattle.db_reading.proofs.Records.{length-records, records-some, rows-decoded}
use Rattle.db_reading.proofs.Rising.{by_rank}
use Rattle.db_reading.proofs.Roles.{Role}
use Rattle.db_reading.proofs.Standing.{stand-back, stand-front, stand-next, stand-one}
use Rattle.db_reading.proofs.Trees.{Found, TreeReads, rows-few, rows-short, tree-found, tree-reads, tree-role, whole-lies, whole_layout}

-- a page that a reader finds lies in the file
pub page-within : (file : List ℕ) (number : ℕ) → length (all_pages (file_pages file) number) ≡ 4096 → 4096 * number ≤ length file
page-within file zero size = omega arith
page-within file (suc before) size =
    elim (cases_lt (length file) (4096 * (before + 1))) [
      | inl past ↦
          let none : all_pages (file_pages file) (suc before) ≡ [] =
          ap (λ (page : Option (List ℕ)). unwrap_or page [])
          (cond-false (nat_le (4096 * (before + 1)) (length file)) (Some (page_at file before)) None (lt-leb (4096 * (before + 1)) (length file) past)) in
          absurd (let no : ⊥ = omega (arith, size, ap length none) in no)
      | inr within ↦ omega (arith, within)
    ]

-- the rows of a tree, decoded
module _ (base : ℕ) (rows : List Row) (past : 0 < base) (storable : All IsStorable rows) where
  abbrev tree : TreeBytes
  tree = tree_of base (map record_bytes rows)

  pub decoded : length tree.bytes < 2 ^ 50 →
      map (λ (entry : Entry). (rowid_of entry.key, decode entry.payload)) (row_entries 1 (map record_bytes rows)) ≡ numbered 1 rows
  decoded short =
      let some = records-some rows storable in
      let few : length rows ≤ length tree.bytes = omega (arith, length-records rows, rows-few base (map record_bytes rows) past some) in
      rows-decoded 1 rows storable (omega (arith, few, short)) (λ k d lt. omega (arith, rows-short base (map record_bytes rows) past some k d lt, short))

-- each table's root, by its number
abbrev pub roots_of : ℕ → List Tabled → List ℕ
roots_of base [] = []
roots_of base (table ∷ tables) =
    let tree = tree_of base (map record_bytes table.rows) in number_of tree.root ∷ roots_of (next_place base tree.bytes) tables

pub listed-is : (base : ℕ) (tables : List Tabled) → listed base tables ≡ list_rows tables (roots_of base tables)
listed-is base [] = refl
listed-is base (table ∷ tables) =
    let tree : TreeBytes = tree_of base (map record_bytes table.rows) in
    ap (λ rows. (Text (codes "table") ∷ Text table.name ∷ Text table.name ∷ Int (pos (number_of tree.root)) ∷ Text table.sql ∷ []) ∷ rows)
    (listed-is (next_place base tree.bytes) tables)

pub trees-whole : (base : ℕ) (tables : List Tabled) → length (trees_bytes base tables) % 4096 ≡ 0
trees-whole base [] = refl
trees-whole base (table ∷ tables) =
    let tree : TreeBytes = tree_of base (map record_bytes table.rows) in
    let others : List ℕ = trees_bytes (next_place base tree.bytes) tables in
    omega (arith, length-append tree.bytes others, tree-whole base (map record_bytes table.rows), trees-whole (next_place base tree.bytes) tables)

-- a row of the list of tables
pub list-storable : (table : Tabled) (root : ℕ) → root < 2 ^ 63 → IsStorable (Text (codes "table") ∷ Text table.name ∷ Text table.name ∷ Int (pos root) ∷ Text table.sql ∷ [])
list-storable table root small =
    let fits : FitsSigned w64 (pos root) = fits_signed_from_abs w64 (pos root) small in
    record {
      some = omega arith;
      few = omega arith;
      writable = All-cons IsWritable (Text (codes "table")) (Text table.name ∷ Text table.name ∷ Int (pos root) ∷ Text table.sql ∷ []) tt
          (All-cons IsWritable (Text table.name) (Text table.name ∷ Int (pos root) ∷ Text table.sql ∷ []) tt
          (All-cons IsWritable (Text table.name) (Int (pos root) ∷ Text table.sql ∷ []) tt
          (All-cons IsWritable (Int (pos root)) (Text table.sql ∷ []) fits (All-cons IsWritable (Text table.sql) [] tt (All-nil IsWritable)))));
    }

module _ (file : List ℕ) (short : length file < 2 ^ 50) where
  -- tables whose trees stand in the file: the rows under each root, and the list of them
  record AreHeld (base : ℕ) (tables : List Tabled) : Type 0 where
    held : AreUnder file tables (roots_of base tables)
    storable : All IsStorable (list_rows tables (roots_of base tables))
    small : All (λ root. root < 2 ^ 63) (roots_of base tables)

  are-held : (base : ℕ) (tables : List Tabled) → 0 < base → All (λ (table : Tabled). All IsStorable table.rows) tables → length (trees_bytes base tables) < 2 ^ 50 →
      Stand (all_pages (file_pages file)) base (trees_bytes base tables) → AreHeld base tables
  are-held base [] past storable small stand = record { held = tt; storable = All-nil IsStorable; small = All-nil (λ root. root < 2 ^ 63) }
  are-held base (table ∷ tables) past storable small stand =
      let pages : PageMap = file_pages file in
      let records : List (List ℕ) = map record_bytes table.rows in
      let tree : TreeBytes = tree_of base records in
      let next : ℕ = next_place base tree.bytes in
      let others : List ℕ = trees_bytes next tables in
      let root : ℕ = number_of tree.root in
      let longer : length (tree.bytes ++ others) ≡ length tree.bytes + length others = length-append tree.bytes others in
      let here : All IsStorable table.rows = All-head (λ (t : Tabled). All IsStorable t.rows) table tables storable in
      let less : length tree.bytes < 2 ^ 50 = omega (arith, longer, small) in
      let found : Found pages root (row_entries 1 records) =
      tree-found pages base records past (records-some table.rows here) less (stand-front (all_pages pages) base tree.bytes others stand) in
      let rows : rows_at file root ≡ numbered 1 table.rows =
      ap (map (λ (entry : Entry). (rowid_of entry.key, decode entry.payload))) found.read ∙ decoded base table.rows past here less in
      let root-small : root < 2 ^ 63 = omega (arith, page-within file root found.size, short) in
      let more : AreHeld next tables =
      are-held next tables (omega (arith, past)) (All-tail (λ (t : Tabled). All IsStorable t.rows) table tables storable) (omega (arith, longer, small))
      (stand-next (all_pages pages) base tree.bytes others (tree-whole base records) stand) in
      record {
        held = (rows, more.held);
        storable = All-cons IsStorable (Text (codes "table") ∷ Text table.name ∷ Text table.name ∷ Int (pos root) ∷ Text table.sql ∷ []) (list_rows tables (roots_of next tables))
            (list-storable table root root-small) more.storable;
        small = All-cons (λ r. r < 2 ^ 63) root (roots_of next tables) root-small more.small;
      }

  -- the tables are held, and their roots are those of their trees
  pub record AreRead (tables : List Tabled) : Type 0 where
    pub holds : HoldsTables file tables
    pub roots-are : holds.roots ≡ roots_of 1 tables
    pub first : List ℕ
    pub count : ℕ
    pub leads : all_pages (file_pages file) 1 ≡ first_page count (number_of (tree_of (next_place 1 (trees_bytes 1 tables)) (map record_bytes (listed 1 tables))).root)
    pub storable : All IsStorable (listed 1 tables)
    pub roots-small : All (λ root. root < 2 ^ 63) (roots_of 1 tables)

  -- a first page, trees and the list of tables behind them
  file-holds : (tables : List Tabled) (count : ℕ) → All (λ (table : Tabled). All IsStorable table.rows) tables →
      (first list : List ℕ) (place : ℕ) → first ≡ first_page count (number_of place) →
      list ≡ (tree_of (next_place 1 (trees_bytes 1 tables)) (map record_bytes (listed 1 tables))).bytes →
      place ≡ (tree_of (next_place 1 (trees_bytes 1 tables)) (map record_bytes (listed 1 tables))).root →
      length (first ++ (trees_bytes 1 tables ++ list)) < 2 ^ 50 →
      Stand (all_pages (file_pages file)) 0 (first ++ (trees_bytes 1 tables ++ list)) → AreRead tables
  file-holds tables count storable first list place is-first is-list is-place small stand =
      let pages : PageMap = file_pages file in
      let trees : List ℕ = trees_bytes 1 tables in
      let roots : List ℕ = roots_of 1 tables in
      let base : ℕ = next_place 1 trees in
      let size : length first ≡ 4096 = ap length is-first ∙ first-size count (number_of place) in
      let longer : length (first ++ (trees ++ list)) ≡ length first + (length trees + length list) =
      length-append first (trees ++ list) ∙ ap (λ n. length first + n) (length-append trees list) in
      let here : all_pages pages 1 ≡ first_page count (number_of place) = stand-one (all_pages pages) 0 first (trees ++ list) size stand ∙ is-first in
      let behind : Stand (all_pages pages) 1 (trees ++ list) = stand-back (all_pages pages) 0 1 first (trees ++ list) size stand in
      let held : AreHeld 1 tables = are-held 1 tables (omega arith) storable (omega (arith, longer, small)) (stand-front (all_pages pages) 1 trees list behind) in
      let last : Stand (all_pages pages) base list = stand-next (all_pages pages) 1 trees list (trees-whole 1 tables) behind in
      let same : listed 1 tables ≡ list_rows tables roots = listed-is 1 tables in
      let are : All IsStorable (listed 1 tables) = subst (All IsStorable) (sym same) held.storable in
      let past : 0 < base = omega arith in
      let less : length (tree_of base (map record_bytes (listed 1 tables))).bytes < 2 ^ 50 = omega (arith, ap length is-list, longer, small) in
      let records : List (List ℕ) = map record_bytes (listed 1 tables) in
      let bytes : List ℕ = (tree_of base records).bytes in
      let role : Role = tree-role base records past (records-some (listed 1 tables) are) in
      let reads : TreeReads by_rank (whole_layout (all_pages pages) role) role base bytes (tree_of base records).root (row_entries 1 records) =
      tree-reads base records past (records-some (listed 1 tables) are) by_rank (whole_layout (all_pages pages) role) less
      (whole-lies (all_pages pages) role base bytes (subst (Stand (all_pages pages) base) is-list last)) in
      let holds : HoldsTables file tables = record {
        roots = roots;
        listed = ap (map (λ (entry : Entry). (rowid_of entry.key, decode entry.payload)))
            (first-reads pages role base bytes count place (row_entries 1 records) here
            (subst (λ p. TreeReads by_rank (whole_layout (all_pages pages) role) role base bytes p (row_entries 1 records)) (sym is-place) reads))
            ∙ decoded base (listed 1 tables) past are less
            ∙ ap (numbered 1) same;
        held = held.held;
      } in
      record { holds = holds; roots-are = refl; first = first; count = count; leads = here ∙ ap (λ p. first_page count (number_of p)) is-place; storable = are; roots-small = held.small }

-- the file before the page of the locks is put into it
abbrev pub image_bytes : List Tabled → List ℕ
image_bytes tables =
    let base = next_place 1 (trees_bytes 1 tables) in
    let list = tree_of base (map record_bytes (listed 1 tables)) in
    first_page (number_of (next_place base list.bytes - 1)) (number_of list.root) ++ (trees_bytes 1 tables ++ list.bytes)

pub image-is : (tables : List Tabled) → image tables ≡ with_lock_page (image_bytes tables)
unfolding image_over
image-is tables = refl

pub image-read : (tables : List Tabled) → All (λ (table : Tabled). All IsStorable table.rows) tables → (short : length (image tables) < 2 ^ 50) → AreRead (image tables) short tables
image-read tables storable short =
    let list : TreeBytes = tree_of (next_place 1 (trees_bytes 1 tables)) (map record_bytes (listed 1 tables)) in
    let count : ℕ = number_of (next_place (next_place 1 (trees_bytes 1 tables)) list.bytes - 1) in
    let small : length (image_bytes tables) < 2 ^ 50 = omega (arith, file-longer (image_bytes tables), ap length (image-is tables), short) in
    file-holds (image tables) short tables count storable (first_page count (number_of list.root)) list.bytes list.root refl refl refl small
    (subst (λ file. Stand (all_pages (file_pages file)) 0 (image_bytes tables)) (sym (image-is tables)) (file-stands (image_bytes tables)))

pub image-holds : (tables : List Tabled) → All (λ (table : Tabled). All IsStorable table.rows) tables → length (image tables) < 2 ^ 50 → HoldsTables (image tables) tables
image-holds tables storable short = (image-read tables storable short).holds
