-- Cells one behind another, cut by their sizes.
use Rattle.std.specs.Prelude.{◌≡◌, ℕ, ◌+◌, ◌-◌, ◌*◌, ◌/◌, ◌%◌, ◌≤◌, List, [], ◌∷◌, ◌++◌, length, take, drop, replicate}
use Rattle.db_pages.specs.Page.{content_at, joined, places}

abbrev pub total : List ℕ → ℕ
total [] = 0
total (size ∷ sizes) = size + total sizes

abbrev pub cut : List ℕ → List ℕ → List (List ℕ)
cut [] bytes = []
cut (size ∷ sizes) bytes = take size bytes ∷ cut sizes (drop size bytes)

-- cells that fit into a leaf
pub record Fits (sizes bytes : List ℕ) : Type 0 where
  pub whole : total sizes ≡ length bytes
  pub room : 8 + 2 * length sizes + length bytes ≤ 4096

-- where cells of these sizes begin, in two bytes, where the first begins at a place
abbrev pub starts : ℕ → List ℕ → List ℕ
starts at [] = []
starts at (size ∷ sizes) = at / 256 ∷ at % 256 ∷ starts (at + size) sizes

-- what stands behind the head of a page: the places of its cells, zeros, and the cells up to the page's end
abbrev pub packed : ℕ → List (List ℕ) → List ℕ
packed head cells = places (content_at cells) cells ++ (replicate (content_at cells - (head + 2 * length cells)) 0 ++ joined cells)

-- the first bytes of a page of so many cells of so many bytes: its kind, no free block, the count, where they begin, no fragment
abbrev pub page_head : ℕ → ℕ → ℕ → List ℕ
page_head kind count size = kind ∷ 0 ∷ 0 ∷ count / 256 ∷ count % 256 ∷ (4096 - size) / 256 ∷ (4096 - size) % 256 ∷ 0 ∷ []
