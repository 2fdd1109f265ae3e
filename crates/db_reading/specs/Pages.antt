-- Pages where a reader of the format finds them (SQLite, "Database File Format", sections 1.2 and 1.3).
use Rattle.std.specs.Prelude.{◌≡◌, ℕ, zero, suc, ◌+◌, ◌*◌, ◌≤◌, List, length, take, drop, nat_le, Some, None, if◌then◌else◌}
use Rattle.sqlite_pages.specs.PageMap.{PageMap}
use Rattle.sqlite_btree.specs.Part.{Part}
use Rattle.db_pages.specs.Numbers.{number_of}

-- the page that has so many before it
abbrev pub page_at : List ℕ → ℕ → List ℕ
page_at bytes before = take 4096 (drop (4096 * before) bytes)

-- the pages of a file by their numbers, from one on
abbrev pub file_pages : List ℕ → PageMap
file_pages file zero = None
file_pages file (suc before) = if nat_le (4096 * (before + 1)) (length file) then Some (page_at file before) else None

-- a fact of each page and its number, where the first stands at a place
abbrev pub EachPage : (ℕ → List ℕ → Type 0) → ℕ → List ℕ → Type 0
EachPage P place bytes = (k : ℕ) → 4096 * (k + 1) ≤ length bytes → P (number_of (place + k)) (page_at bytes k)

-- pages stand one behind another, the first at a place
abbrev pub Stand : Part → ℕ → List ℕ → Type 0
Stand part place bytes = EachPage (λ number page. part number ≡ page) place bytes
