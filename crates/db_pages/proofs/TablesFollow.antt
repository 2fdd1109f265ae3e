-- Tables that are written one behind another.
use Rattle.std.proofs.Common.{◌≡◌, ℕ, List, [], ◌∷◌, ◌++◌, map, sym, ◌∙◌, ap, arith, append_assoc, append-nil, length-append}
use Rattle.std.proofs.lemmas.List.{map-append}
use Rattle.sqlite_value.specs.Order.{Row}
use Rattle.db_records.specs.Record.{record_bytes}
use Rattle.db_pages.specs.Grown.{TreeBytes, tree_of}
use Rattle.db_pages.specs.Image.{Tabled, imaged, list_row, listed, trees_bytes, with_table}
use Rattle.db_pages.specs.Laid.{next_place}
use Rattle.db_pages.proofs.WholeTrees.{tree-whole}

-- the tree of a table, behind so many pages
abbrev tree_at : ℕ → Tabled → TreeBytes
tree_at base table = tree_of base (map record_bytes table.rows)

next-behind : (base : ℕ) (table : Tabled) (more : List ℕ) →
    next_place (next_place base (tree_at base table).bytes) more ≡ next_place base ((tree_at base table).bytes ++ more)
next-behind base table more = omega (arith, length-append (tree_at base table).bytes more, tree-whole base (map record_bytes table.rows))

trees-more : (base : ℕ) (tables : List Tabled) (table : Tabled) →
    trees_bytes base (tables ++ table ∷ []) ≡ trees_bytes base tables ++ (tree_at (next_place base (trees_bytes base tables)) table).bytes
trees-more base [] table =
    let e : base ≡ next_place base [] = omega arith in
    append-nil (tree_at base table).bytes ∙ ap (λ b. (tree_at b table).bytes) e
trees-more base (first ∷ tables) table =
    let tree : TreeBytes = tree_at base first in
    let to : ℕ = next_place base tree.bytes in
    ap (λ xs. tree.bytes ++ xs) (trees-more to tables table)
    ∙ ap (λ b. tree.bytes ++ (trees_bytes to tables ++ (tree_at b table).bytes)) (next-behind base first (trees_bytes to tables))
    ∙ sym (append_assoc tree.bytes (trees_bytes to tables) (tree_at (next_place base (tree.bytes ++ trees_bytes to tables)) table).bytes)

abbrev row_of : Tabled → ℕ → Row
row_of table root = list_row table.name table.sql root

listed-more : (base : ℕ) (tables : List Tabled) (table : Tabled) →
    listed base (tables ++ table ∷ []) ≡ listed base tables ++ row_of table (tree_at (next_place base (trees_bytes base tables)) table).root ∷ []
listed-more base [] table = let e : base ≡ next_place base [] = omega arith in ap (λ b. row_of table (tree_at b table).root ∷ []) e
listed-more base (first ∷ tables) table =
    let tree : TreeBytes = tree_at base first in
    let to : ℕ = next_place base tree.bytes in
    let row : Row = row_of first tree.root in
    ap (λ rs. row ∷ rs) (listed-more to tables table)
    ∙ ap (λ b. row ∷ listed to tables ++ row_of table (tree_at b table).root ∷ []) (next-behind base first (trees_bytes to tables))

pub tables-follow : (tables : List Tabled) (table : Tabled) →
    with_table (imaged tables) table.name table.sql (tree_of (next_place 1 (imaged tables).trees) (map record_bytes table.rows)) ≡ imaged (tables ++ table ∷ [])
tables-follow tables table =
    let tree : TreeBytes = tree_at (next_place 1 (trees_bytes 1 tables)) table in
    ap (λ xs. record { trees = xs; records = map record_bytes (listed 1 tables) ++ record_bytes (row_of table tree.root) ∷ [] }) (sym (trees-more 1 tables table))
    ∙ ap (λ rs. record { trees = trees_bytes 1 (tables ++ table ∷ []); records = rs })
    (sym (map-append record_bytes (listed 1 tables) (row_of table tree.root ∷ [])) ∙ ap (λ rs. map record_bytes rs) (sym (listed-more 1 tables table)))
