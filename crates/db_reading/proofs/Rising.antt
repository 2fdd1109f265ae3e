-- Rows and dividers in the order of their keys.
use Rattle.std.proofs.Common.{◌≡◌, ℕ, zero, suc, ◌+◌, ◌-◌, ◌*◌, ◌^◌, ◌<◌, ◌≤◌, true, false, Bool, List, [], ◌∷◌, ◌++◌, length, take, drop, map, refl, sym, ◌∙◌, ap, subst, arith, inl, inr, length-drop, nat_lt}
use Rattle.std.specs.Prelude.{⊤}
use Rattle.std.proofs.lemmas.Bool.{cases_lt, lt-ltb}
use Rattle.std.proofs.lemmas.List.{map-append}
use Rattle.sqlite_format.specs.declared.kind.Tree.TheVariants.{Table}
use Rattle.sqlite_format.specs.Cell.{body_key, flip_sign}
use Rattle.sqlite_btree.specs.Part.{Part}
use Rattle.sqlite_btree.specs.Cut.{Ascends, Each}
use Rattle.sqlite_btree.specs.Items.{Form, Item, body_of, cell_item, is_row}
use Rattle.sqlite_btree.specs.Tree.{fan_items, tree_items}
use Rattle.sqlite_btree.specs.Chain.{Entry}
use Rattle.sqlite_btree.specs.Stored.{rank}
use Rattle.db_records.specs.Varint.{varint}
use Rattle.db_pages.specs.declared.child.Child.{Child}
use Rattle.db_pages.specs.Levels.{dividers, grouped, last_child}
use Rattle.db_pages.specs.Numbers.{four_bytes, number_of}
use Rattle.db_pages.proofs.Grouping.{grouped-last, grouped-more}
use Rattle.db_reading.specs.Entries.{row_entries}
use Rattle.db_reading.proofs.Inner.{divider-child, divider-key}
use Rattle.db_reading.proofs.LeafCells.{leaf_entry}

-- where an item stands in the order of a table
abbrev pub item_rank : Item → ℕ
item_rank x = rank (is_row x) (body_key Table (is_row x) (body_of x))

abbrev pub by_rank : Item → Item → Bool
by_rank x y = nat_lt (item_rank x) (item_rank y)

-- numbers that rise strictly between two others
abbrev pub IsRising : ℕ → ℕ → List ℕ → Type 0
IsRising low high [] = low < high
IsRising low high (n ∷ ns) = (low < n) × IsRising n high ns

rising-with : (low mid high : ℕ) (xs ys : List ℕ) → IsRising low mid xs → IsRising mid high ys → IsRising low high (xs ++ mid ∷ ys)
rising-with low mid high [] ys front behind = (front, behind)
rising-with low mid high (x ∷ xs) ys front behind = (front.0, rising-with x mid high xs ys front.1 behind)

rising-above : (least low high : ℕ) (xs : List Item) → least ≤ low → IsRising low high (map item_rank xs) → Each (λ x. nat_lt least (item_rank x) ≡ true) xs
rising-above least low high [] under rising = tt
rising-above least low high (x ∷ xs) under rising =
    (lt-ltb least (item_rank x) (omega (arith, under, rising.0)), rising-above least (item_rank x) high xs (omega (arith, under, rising.0)) rising.1)

pub rising-ascends : (low high : ℕ) (xs : List Item) → IsRising low high (map item_rank xs) → Ascends by_rank xs
rising-ascends low high [] rising = tt
rising-ascends low high (x ∷ xs) rising = (rising-above (item_rank x) (item_rank x) high xs (omega arith) rising.1, rising-ascends (item_rank x) high xs rising.1)

-- behind the row of a rowid, and before the next
abbrev pub edge : ℕ → ℕ
edge rowid = 2 * (rowid + 2 ^ 63) + 1

abbrev pub entry_rank : Entry → ℕ
entry_rank entry = rank entry.row entry.key

flipped : (rowid : ℕ) → rowid < 2 ^ 63 → flip_sign rowid ≡ rowid + 2 ^ 63
flipped rowid small = omega (arith, small)

rows-rise : (low rowid : ℕ) (rows : List (List ℕ)) → low < 2 * (rowid + 2 ^ 63) → 0 < length rows → rowid + length rows < 2 ^ 62 →
    IsRising low (2 * (rowid + length rows + 2 ^ 63) - 1) (map entry_rank (row_entries rowid rows))
rows-rise low rowid [] under some small = absurd (let no : ⊥ = omega (arith, some) in no)
rows-rise low rowid (row ∷ []) under some small =
    let flip : flip_sign rowid ≡ rowid + 2 ^ 63 = flipped rowid (omega (arith, small)) in
    (omega (arith, under, flip), omega (arith, flip))
rows-rise low rowid (row ∷ next ∷ rows) under some small =
    let flip : flip_sign rowid ≡ rowid + 2 ^ 63 = flipped rowid (omega (arith, small)) in
    let e : 2 * (rowid + 1 + length (next ∷ rows) + 2 ^ 63) - 1 ≡ 2 * (rowid + length (row ∷ next ∷ rows) + 2 ^ 63) - 1 = omega arith in (
      omega (arith, under, flip),
      subst (λ high. IsRising (entry_rank (record { row = true; key = flip_sign rowid; payload = row })) high (map entry_rank (row_entries (rowid + 1) (next ∷ rows)))) e
          (rows-rise (2 * flip_sign rowid + 0) (rowid + 1) (next ∷ rows) (omega (arith, flip)) (omega arith) (omega (arith, small))),
    )

module _ (order : Item → Item → Bool) where
  abbrev of_table : Form
  of_table = record { tree = Table; usable = 4096; order = order }

  cells-ranks : (spill : Part) (cells : List (List ℕ)) → map item_rank (map (cell_item of_table true) cells) ≡ map entry_rank (map (leaf_entry spill) cells)
  cells-ranks spill [] = refl
  cells-ranks spill (cell ∷ cells) = ap (λ ns. item_rank (cell_item of_table true cell) ∷ ns) (cells-ranks spill cells)

  -- the rows of a leaf rise
  pub leaf-rises : (spill : Part) (cells rows : List (List ℕ)) (low : ℕ) → map (leaf_entry spill) cells ≡ row_entries (low + 1) rows → 0 < length rows → low + length rows < 2 ^ 61 →
      IsRising (edge low) (edge (low + length rows)) (map item_rank (map (cell_item of_table true) cells))
  leaf-rises spill cells rows low says some small =
      let same : map item_rank (map (cell_item of_table true) cells) ≡ map entry_rank (row_entries (low + 1) rows) = cells-ranks spill cells ∙ ap (map entry_rank) says in
      let e : 2 * (low + 1 + length rows + 2 ^ 63) - 1 ≡ edge (low + length rows) = omega arith in
      subst (IsRising (edge low) (edge (low + length rows))) (sym same)
      (subst (λ high. IsRising (edge low) high (map entry_rank (row_entries (low + 1) rows))) e
      (rows-rise (edge low) (low + 1) rows (omega arith) some (omega (arith, small))))

  module _ (part : Part) (height : ℕ) where
    abbrev ranks_of : Child → List ℕ
    ranks_of child = map item_rank (tree_items of_table part height (number_of child.place))

    -- pages in order: the items under each rise behind those under the pages before it
    abbrev pub Rise : ℕ → List Child → Type 0
    Rise low [] = ⊤
    Rise low (child ∷ children) = IsRising (edge low) (edge child.last) (ranks_of child) × Rise child.last children

    abbrev pub AllRise : ℕ → List (List Child) → Type 0
    AllRise low [] = ⊤
    AllRise low (group ∷ groups) = Rise low group × AllRise (last_child group).last groups

    -- what stands under the page above some others
    pub fan-rises : (children : List Child) (low : ℕ) → 0 < length children → Each (λ (child : Child). child.last < 2 ^ 56) children → Rise low children →
        IsRising (edge low) (edge (last_child children).last)
        (map item_rank (fan_items of_table (tree_items of_table part height) (dividers children) (number_of (last_child children).place)))
    fan-rises [] low some small rise = absurd (let no : ⊥ = omega (arith, some) in no)
    fan-rises (child ∷ []) low some small rise = rise.0
    fan-rises (child ∷ next ∷ more) low some small rise =
        let cell : List ℕ = four_bytes (number_of child.place) ++ varint child.last in
        let items : ℕ → List Item = tree_items of_table part height in
        let high : ℕ = edge (last_child (next ∷ more)).last in
        let behind : List Item = fan_items of_table items (dividers (next ∷ more)) (number_of (last_child (next ∷ more)).place) in
        let divider : item_rank (cell_item of_table false cell) ≡ edge child.last =
        ap (λ k. 2 * k + 1) (divider-key (number_of child.place) child.last small.0) ∙ ap (λ k. 2 * k + 1) (flipped child.last (omega (arith, small.0))) in
        let same : map item_rank (items (number_of child.place) ++ (cell_item of_table false cell ∷ behind)) ≡ ranks_of child ++ edge child.last ∷ map item_rank behind =
        map-append item_rank (items (number_of child.place)) (cell_item of_table false cell ∷ behind) ∙ ap (λ n. ranks_of child ++ n ∷ map item_rank behind) divider in
        subst (λ n. IsRising (edge low) high (map item_rank (items n ++ (cell_item of_table false cell ∷ behind)))) (sym (divider-child (number_of child.place) child.last))
        (subst (IsRising (edge low) high) (sym same)
        (rising-with (edge low) (edge child.last) high (ranks_of child) (map item_rank behind) rise.0 (fan-rises (next ∷ more) child.last (omega arith) small.1 rise.1)))

    rise-front : (n low : ℕ) (children : List Child) → Rise low children → Rise low (take n children)
    rise-front zero low children rise = tt
    rise-front (suc n) low [] rise = tt
    rise-front (suc n) low (child ∷ children) rise = (rise.0, rise-front n child.last children rise.1)

    rise-behind : (n low : ℕ) (children : List Child) → n < length children → Rise low children → Rise (last_child (take (suc n) children)).last (drop (suc n) children)
    rise-behind n low [] less rise = absurd (let no : ⊥ = omega (arith, less) in no)
    rise-behind zero low (child ∷ children) less rise = rise.1
    rise-behind (suc n) low (child ∷ []) less rise = absurd (let no : ⊥ = omega (arith, less) in no)
    rise-behind (suc n) low (child ∷ next ∷ children) less rise = rise-behind n child.last (next ∷ children) (omega (arith, less)) rise.1

    pub groups-rise : (fuel low : ℕ) (children : List Child) → length children ≤ fuel → Rise low children → AllRise low (grouped fuel children)
    groups-rise zero low children enough rise = tt
    groups-rise (suc fuel) low children enough rise =
        elim (cases_lt (length children) 256) [
          | inl few ↦ subst (AllRise low) (sym (grouped-last fuel children few)) (rise, tt)
          | inr many ↦
              subst (AllRise low) (sym (grouped-more fuel children many)) (
                rise-front 128 low children rise,
                groups-rise fuel (last_child (take 128 children)).last (drop 128 children) (omega (arith, many, enough, length-drop 128 children)) (rise-behind 127 low children (omega (arith, many)) rise),
              )
        ]
