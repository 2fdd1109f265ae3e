-- Rows laid out in leaves (SQLite, "Database File Format", sections 1.5 and 1.6; where leaves end is this writer's profile).
use Rattle.std.specs.Prelude.{ℕ, zero, suc, ◌+◌, ◌-◌, ◌*◌, ◌/◌, ◌%◌, ◌==◌, List, [], ◌∷◌, ◌++◌, length, take, drop, replicate, nat_le, if◌then◌else◌}
use Rattle.csv_source.specs.Lists.{is_empty}
use Rattle.sqlite_format.specs.declared.kind.Tree.TheVariants.{Table}
use Rattle.sqlite_format.specs.Cell.{local_len}
use Rattle.db_records.specs.Varint.{varint}
use Rattle.db_records.specs.Cell.{cell_bytes}
use Rattle.db_pages.specs.Page.{joined, leaf_page}
use Rattle.db_pages.specs.declared.child.Child.{Child}
use Rattle.db_pages.specs.Numbers.{four_bytes, number_of}

-- pages, the leaves among them, the cells of the leaf under way, and the last rowid
pub record Laid : Type 0 where
  pub pages : List ℕ
  pub leaves : List Child
  pub cells : List (List ℕ)
  pub last : ℕ

abbrev pub nothing_laid : Laid
nothing_laid = record { pages = []; leaves = []; cells = []; last = 0 }

-- the place of the next page, behind `base` others
abbrev pub next_place : ℕ → List ℕ → ℕ
next_place base pages = base + length pages / 4096

-- the leaf under way is a page
abbrev pub finished : ℕ → Laid → Laid
finished base laid =
    record {
      pages = laid.pages ++ leaf_page laid.cells;
      leaves = laid.leaves ++ (record { place = next_place base laid.pages; last = laid.last }) ∷ [];
      cells = [];
      last = laid.last;
    }

-- the same, where it has a cell
abbrev pub ended : ℕ → Laid → Laid
ended base laid = if is_empty laid.cells then laid else finished base laid

-- with room for a cell of so many bytes: a leaf without it is finished
abbrev pub roomy : ℕ → Laid → ℕ → Laid
roomy base laid size =
    if nat_le (8 + 2 * (length laid.cells + 1) + length (joined laid.cells) + size) 4096 then laid else finished base laid

-- the pages in which a record goes on, from a place on: each names the next one, the last names none
abbrev pub chain : ℕ → ℕ → List ℕ → List ℕ
chain zero place rest = []
chain (suc fuel) place rest =
    if nat_le (length rest) 4092 then four_bytes 0 ++ (rest ++ replicate (4092 - length rest) 0)
    else four_bytes (number_of (place + 1)) ++ (take 4092 rest ++ chain fuel (place + 1) (drop 4092 rest))

-- a row whose record stays whole
abbrev pub with_short : ℕ → Laid → ℕ → List ℕ → Laid
with_short base laid rowid row =
    let to = roomy base laid (length (cell_bytes rowid row)) in
    record { pages = to.pages; leaves = to.leaves; cells = to.cells ++ cell_bytes rowid row ∷ []; last = rowid }

-- the cell of a longer record, which goes on at a place
abbrev pub long_cell : ℕ → ℕ → List ℕ → List ℕ
long_cell place rowid row =
    varint (length row) ++ (varint rowid ++ (take (local_len Table 4096 (length row)) row ++ four_bytes (number_of place)))

abbrev pub with_long : ℕ → Laid → ℕ → List ℕ → Laid
with_long base laid rowid row =
    let to = roomy base laid (length (long_cell 0 rowid row)) in
    let place = next_place base to.pages in
    record {
      pages = to.pages ++ chain (length row) place (drop (local_len Table 4096 (length row)) row);
      leaves = to.leaves;
      cells = to.cells ++ long_cell place rowid row ∷ [];
      last = rowid;
    }

abbrev pub with_row : ℕ → Laid → ℕ → List ℕ → Laid
with_row base laid rowid row = if nat_le (length row) 4061 then with_short base laid rowid row else with_long base laid rowid row

-- rows with ascending rowids; a block of 8192 ends its leaf
abbrev pub with_rows : ℕ → Laid → ℕ → List (List ℕ) → Laid
with_rows base laid rowid [] = laid
with_rows base laid rowid (row ∷ rows) =
    let next = with_row base laid rowid row in
    with_rows base (if rowid % 8192 == 0 then ended base next else next) (rowid + 1) rows
