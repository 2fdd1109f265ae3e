-- The pages above others (SQLite, "Database File Format", section 1.6; how pages are grouped is this writer's profile).
use Rattle.std.specs.Prelude.{ℕ, zero, suc, ◌+◌, ◌-◌, ◌*◌, ◌/◌, ◌%◌, List, [], ◌∷◌, ◌++◌, length, take, drop, replicate, nat_le, nat_lt, if◌then◌else◌}
use Rattle.db_records.specs.Varint.{varint}
use Rattle.db_pages.specs.Page.{joined, places}
use Rattle.db_pages.specs.declared.child.Child.{Child}
use Rattle.db_pages.specs.Numbers.{four_bytes, number_of}

-- groups of 128 pages, the last of 255 at most
abbrev pub grouped : ℕ → List Child → List (List Child)
grouped zero children = []
grouped (suc fuel) children =
    if nat_lt (length children) 256 then children ∷ [] else take 128 children ∷ grouped fuel (drop 128 children)

-- the cells of a page above others, all but the last of them, and that one
abbrev pub dividers : List Child → List (List ℕ)
dividers [] = []
dividers (child ∷ []) = []
dividers (child ∷ next ∷ more) = (four_bytes (number_of child.place) ++ varint child.last) ∷ dividers (next ∷ more)

abbrev pub last_child : List Child → Child
last_child [] = record { place = 0; last = 0 }
last_child (child ∷ []) = child
last_child (child ∷ next ∷ more) = last_child (next ∷ more)

abbrev pub inner_page : List ℕ → List (List ℕ) → List ℕ
inner_page right cells =
    let at = 4096 - length (joined cells) in
    5 ∷ 0 ∷ 0 ∷ length cells / 256 ∷ length cells % 256 ∷ at / 256 ∷ at % 256 ∷ 0
    ∷ (right ++ (places at cells ++ (replicate (at - (12 + 2 * length cells)) 0 ++ joined cells)))

abbrev pub page_above : List Child → List ℕ
page_above children = inner_page (four_bytes (number_of (last_child children).place)) (dividers children)

-- a level: its pages from a place on, and what the next level stands on
abbrev pub level_pages : List (List Child) → List ℕ
level_pages [] = []
level_pages (children ∷ groups) = page_above children ++ level_pages groups

abbrev pub level_children : ℕ → List (List Child) → List Child
level_children place [] = []
level_children place (children ∷ groups) = (record { place = place; last = (last_child children).last }) ∷ level_children (place + 1) groups

-- all levels from a place on, and the place of the root; five levels stand on more pages than a file has
abbrev pub levels_pages : ℕ → ℕ → List Child → List ℕ
levels_pages zero place children = []
levels_pages (suc fuel) place children =
    if nat_le (length children) 1 then []
    else let groups = grouped (length children) children in
    level_pages groups ++ levels_pages fuel (place + length groups) (level_children place groups)

abbrev pub root_place : ℕ → ℕ → List Child → ℕ
root_place zero place children = (last_child children).place
root_place (suc fuel) place children =
    if nat_le (length children) 1 then (last_child children).place
    else let groups = grouped (length children) children in root_place fuel (place + length groups) (level_children place groups)
