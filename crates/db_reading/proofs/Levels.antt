-- Pages above others, as trees that are read.
use Rattle.std.proofs.Common.{◌≡◌, ℕ, zero, suc, ◌+◌, ◌-◌, ◌*◌, ◌<◌, ◌≤◌, ◌^◌, Bool, false, List, [], ◌∷◌, ◌++◌, length, map, flat_map, length-append, refl, sym, ◌∙◌, ap, subst, arith, inl, inr, append-nil, nat_le, All}
use Rattle.std.proofs.lemmas.Bool.{cases_lt, cond-false, lt-leb}
use Rattle.std.proofs.lemmas.Bool.Decides.{nat_tests}
use Rattle.sqlite_format.specs.declared.kind.Tree.TheVariants.{Table}
use Rattle.sqlite_format.specs.Page.{IsPage, page_cells, right_child}
use Rattle.sqlite_btree.specs.Part.{Part}
use Rattle.sqlite_btree.specs.Cut.{Ascends, Each}
use Rattle.sqlite_btree.specs.Items.{Form, Item, cell_item, rows_of}
use Rattle.sqlite_btree.specs.Tree.{EachChild, IsPageOf, IsTree, Reaches, SomeChild, cells_of, fan_items, header_of, right_of, tree_items}
use Rattle.sqlite_btree.proofs.CutLemmas.{rows_of-append}
use Rattle.sqlite_btree.proofs.TreeLemmas.{header_of_other}
use Rattle.db_records.specs.Varint.{varint}
use Rattle.db_pages.specs.declared.child.Child.{Child}
use Rattle.db_pages.specs.Levels.{dividers, grouped, last_child, level_children, level_pages, levels_pages, page_above, root_place}
use Rattle.db_pages.specs.Numbers.{four_bytes, number_of}
use Rattle.db_pages.proofs.Grouping.{length-level, levels-done}
use Rattle.db_pages.proofs.WholeTrees.{above-whole}
use Rattle.db_reading.specs.Laws.{HoldsChildren, inner_kind}
use Rattle.db_reading.specs.Pages.{Stand}
use Rattle.db_reading.proofs.Each.{each-all, each-so}
use Rattle.db_reading.proofs.Groups.{AreGroups, IsGroup, Some-of, are-groups, grouped-some, level-size, some-groups}
use Rattle.db_reading.proofs.Inner.{divider-child, page-reads}
use Rattle.db_reading.proofs.Rising.{AllRise, IsRising, Rise, by_rank, edge, fan-rises, groups-rise, item_rank, rising-ascends}
use Rattle.db_reading.proofs.Standing.{stand-back, stand-front, stand-one}

pub past-first : (place : ℕ) → 0 < place → 1 < number_of place
past-first place some = grind (arith, nat_tests)

pub dividers-count : (children : List Child) → 0 < length children → length (dividers children) + 1 ≡ length children
dividers-count [] some = absurd (let no : ⊥ = omega (arith, some) in no)
dividers-count (child ∷ []) some = refl
dividers-count (child ∷ next ∷ more) some = omega (arith, dividers-count (next ∷ more) (omega arith))

module _ (order : Item → Item → Bool) (part : Part) where
  -- the form of tables, of which the order plays no part here
  abbrev pub form : Form
  form = record { tree = Table; usable = 4096; order = order }

  -- a page heads a tree of this height
  pub record Heads (height : ℕ) (child : Child) : Type 0 where
    pub tree : IsTree form part height (number_of child.place)
    pub small : child.last < 2 ^ 56

  -- the rows under a page
  abbrev pub rows_under : ℕ → Child → List Item
  rows_under height child = rows_of (tree_items form part height (number_of child.place))

  -- a page is in the tree under another
  abbrev pub Reached : ℕ → ℕ → Child → Type 0
  Reached height number child = Reaches form part height (number_of child.place) number

  -- what is under one of some pages is under one of the children of the page above them
  some-child : (height number : ℕ) (children : List Child) → Some-of (Reached height number) children →
      SomeChild (λ child. Reaches form part height child number) (dividers children) (number_of (last_child children).place)
  some-child height number [] some = absurd some
  some-child height number (child ∷ []) some = elim some [ inl here ↦ here | inr there ↦ absurd there ]
  some-child height number (child ∷ next ∷ more) some =
      elim some [
        | inl here ↦ inl (subst (λ page. Reaches form part height page number) (sym (divider-child (number_of child.place) child.last)) here)
        | inr there ↦ inr (some-child height number (next ∷ more) there)
      ]

  -- the rows under the page above some others are theirs
  fan-rows : (height : ℕ) (children : List Child) → 0 < length children →
      rows_of (fan_items form (tree_items form part height) (dividers children) (number_of (last_child children).place)) ≡ flat_map (rows_under height) children
  fan-rows height [] some = absurd (let no : ⊥ = omega (arith, some) in no)
  fan-rows height (child ∷ []) some = sym (append-nil (rows_under height child))
  fan-rows height (child ∷ next ∷ more) some =
      let cell : List ℕ = four_bytes (number_of child.place) ++ varint child.last in
      let items : ℕ → List Item = tree_items form part height in
      let behind : List Item = fan_items form items (dividers (next ∷ more)) (number_of (last_child (next ∷ more)).place) in
      ap (λ n. rows_of (items n ++ (cell_item form false cell ∷ behind))) (divider-child (number_of child.place) child.last)
      ∙ rows_of-append (items (number_of child.place)) (cell_item form false cell ∷ behind)
      ∙ ap (λ xs. rows_under height child ++ xs) (fan-rows height (next ∷ more) (omega arith))

  each-child : (height : ℕ) (children : List Child) → 0 < length children → Each (Heads height) children →
      EachChild (IsTree form part height) (dividers children) (number_of (last_child children).place)
  each-child height [] some heads = absurd (let no : ⊥ = omega (arith, some) in no)
  each-child height (child ∷ []) some heads = heads.0.tree
  each-child height (child ∷ next ∷ more) some heads = (
    subst (IsTree form part height) (sym (divider-child (number_of child.place) child.last)) heads.0.tree,
    each-child height (next ∷ more) (omega arith) heads.1,
  )

  -- the page above a group
  pub record Above (height : ℕ) (group : List Child) (child : Child) : Type 0 where
    pub heads : Heads (suc height) child
    pub rows : rows_under (suc height) child ≡ flat_map (rows_under height) group
    pub reach : (number : ℕ) → Some-of (Reached height number) group → Reached (suc height) number child
    pub rises : (low : ℕ) → Rise order part height low group → IsRising (edge low) (edge child.last) (map item_rank (tree_items form part (suc height) (number_of child.place)))

  last-small : (height : ℕ) (group : List Child) → 0 < length group → Each (Heads height) group → (last_child group).last < 2 ^ 56
  last-small height [] some heads = absurd (let no : ⊥ = omega (arith, some) in no)
  last-small height (child ∷ []) some heads = heads.0.small
  last-small height (child ∷ next ∷ more) some heads = last-small height (next ∷ more) (omega arith) heads.1

  above : (height place : ℕ) (group : List Child) → IsGroup group → 0 < place → Each (Heads height) group → part (number_of place) ≡ page_above group →
      Above height group (record { place = place; last = (last_child group).last })
  above height place group size some heads here =
      let page : ℕ = number_of place in
      let right : ℕ = number_of (last_child group).place in
      let small : All (λ (child : Child). child.last < 2 ^ 56) group =
      each-all (λ (child : Child). child.last < 2 ^ 56) group (each-so (Heads height) (λ (child : Child). child.last < 2 ^ 56) (λ child h. h.small) group heads) in
      let holds : HoldsChildren (page_above group) group = page-reads group size.1 small in
      let past : 1 < page = past-first place some in
      let header : header_of page ≡ 0 = header_of_other page past in
      let cells : cells_of form false part page ≡ dividers group =
      ap (λ k. page_cells inner_kind (part page) k) header ∙ ap (λ p. page_cells inner_kind p 0) here ∙ holds.cells.found in
      let last : right_of part page ≡ right = ap (λ k. right_child (part page) k) header ∙ ap (λ p. right_child p 0) here ∙ holds.right in
      let node : IsPageOf form false page (part page) = record {
        sound = subst (λ k. IsPage inner_kind (part page) k) (sym header) (subst (λ p. IsPage inner_kind p 0) (sym here) holds.cells.sound);
        size = ap length here ∙ above-whole group size.1;
      } in
      let many : 0 < length group = omega (arith, size.0) in
      let below : EachChild (IsTree form part height) (cells_of form false part page) (right_of part page) =
      subst (λ cs. EachChild (IsTree form part height) cs (right_of part page)) (sym cells)
      (subst (λ n. EachChild (IsTree form part height) (dividers group) n) (sym last) (each-child height group many heads)) in
      record {
        heads = record {
          tree = (node, below, omega (arith, ap length cells, dividers-count group many, size.0), past);
          small = last-small height group many heads;
        };
        rows = ap (λ cs. rows_of (fan_items form (tree_items form part height) cs (right_of part page))) cells
            ∙ ap (λ n. rows_of (fan_items form (tree_items form part height) (dividers group) n)) last
            ∙ fan-rows height group many;
        reach = λ number one. inr (subst (λ cs. SomeChild (λ child. Reaches form part height child number) cs (right_of part page)) (sym cells)
            (subst (λ n. SomeChild (λ child. Reaches form part height child number) (dividers group) n) (sym last) (some-child height number group one)));
        rises = λ low rise.
            subst (λ cs. IsRising (edge low) (edge (last_child group).last) (map item_rank (fan_items form (tree_items form part height) cs (right_of part page)))) (sym cells)
            (subst (λ n. IsRising (edge low) (edge (last_child group).last) (map item_rank (fan_items form (tree_items form part height) (dividers group) n))) (sym last)
            (fan-rises order part height group low many (each-so (Heads height) (λ (child : Child). child.last < 2 ^ 56) (λ child h. h.small) group heads) rise));
      }

  -- a level stands on the one below it
  pub record Level (height place : ℕ) (groups : List (List Child)) (children : List Child) : Type 0 where
    pub heads : Each (Heads (suc height)) children
    pub rows : flat_map (rows_under (suc height)) children ≡ flat_map (λ (group : List Child). flat_map (rows_under height) group) groups
    pub reach : (number : ℕ) → Some-of (Some-of (Reached height number)) groups → Some-of (Reached (suc height) number) children
    pub pages : (k : ℕ) → 4096 * (k + 1) ≤ length (level_pages groups) → Some-of (Reached (suc height) (number_of (place + k))) children
    pub rises : (low : ℕ) → AllRise order part height low groups → Rise order part (suc height) low children

  level-page : (height place : ℕ) (group : List Child) (groups : List (List Child)) → length (page_above group) ≡ 4096 →
      ((k : ℕ) → 4096 * (k + 1) ≤ length (level_pages groups) → Some-of (Reached (suc height) (number_of (place + 1 + k))) (level_children (place + 1) groups)) →
      (k : ℕ) → 4096 * (k + 1) ≤ length (page_above group ++ level_pages groups) →
      Some-of (Reached (suc height) (number_of (place + k))) ((record { place = place; last = (last_child group).last }) ∷ level_children (place + 1) groups)
  level-page height place group groups size others zero within = let e : place + 0 ≡ place = omega arith in inl (inl (ap number_of e))
  level-page height place group groups size others (suc k) within =
      let e : place + 1 + k ≡ place + suc k = omega arith in
      inr (subst (λ p. Some-of (Reached (suc height) (number_of p)) (level_children (place + 1) groups)) e
      (others k (omega (arith, within, size, length-append (page_above group) (level_pages groups)))))

  level : (height place : ℕ) (groups : List (List Child)) → Each IsGroup groups → 0 < place → Each (Each (Heads height)) groups → Stand part place (level_pages groups) →
      Level height place groups (level_children place groups)
  level height place [] sizes some heads stand =
      record { heads = tt; rows = refl; reach = λ number some. some; pages = λ k within. absurd (let no : ⊥ = omega (arith, within) in no); rises = λ low rise. tt }
  level height place (group ∷ groups) sizes some heads stand =
      let page : List ℕ = page_above group in
      let size : length page ≡ 4096 = above-whole group sizes.0.1 in
      let one : Above height group (record { place = place; last = (last_child group).last }) =
      above height place group sizes.0 some heads.0 (stand-one part place page (level_pages groups) size stand) in
      let others : Level height (place + 1) groups (level_children (place + 1) groups) =
      level height (place + 1) groups sizes.1 (omega arith) heads.1 (stand-back part place 1 page (level_pages groups) size stand) in
      record {
        heads = (one.heads, others.heads);
        rows = ap (λ xs. xs ++ flat_map (rows_under (suc height)) (level_children (place + 1) groups)) one.rows
            ∙ ap (λ xs. flat_map (rows_under height) group ++ xs) others.rows;
        reach = λ number some. elim some [ inl here ↦ inl (one.reach number here) | inr there ↦ inr (others.reach number there) ];
        pages = λ k within. level-page height place group groups size others.pages k within;
        rises = λ low rise. (one.rises low rise.0, others.rises (last_child group).last rise.1);
      }

  -- fewer pages than these have their root after so many levels
  abbrev pub most : ℕ → ℕ
  most zero = 2
  most (suc fuel) = 128 * most fuel

  most-some : (fuel : ℕ) → 2 ≤ most fuel
  most-some zero = omega arith
  most-some (suc fuel) = omega (arith, most-some fuel)

  -- the root of a tree, under which are the rows of these pages, and the pages of the levels above them
  pub record Root (height fuel : ℕ) (children : List Child) (from : ℕ) (levels : List ℕ) (place : ℕ) : Type 0 where
    pub tall : ℕ
    pub shallow : tall ≤ height + fuel
    pub tree : IsTree form part tall (number_of place)
    pub rows : rows_of (tree_items form part tall (number_of place)) ≡ flat_map (rows_under height) children
    pub reach : (number : ℕ) → Some-of (Reached height number) children → Reaches form part tall (number_of place) number
    pub pages : (k : ℕ) → 4096 * (k + 1) ≤ length levels → Reaches form part tall (number_of place) (number_of (from + k))
    pub ascends : (low : ℕ) → Rise order part height low children → Ascends by_rank (tree_items form part tall (number_of place))

  one-root : (height fuel : ℕ) (children : List Child) (from : ℕ) (levels : List ℕ) (place : ℕ) → 0 < length children → length children ≤ 1 → levels ≡ [] →
      place ≡ (last_child children).place → Each (Heads height) children → Root height fuel children from levels place
  one-root height fuel [] from levels place some few none is heads = absurd (let no : ⊥ = omega (arith, some) in no)
  one-root height fuel (child ∷ []) from levels place some few none is heads =
      subst (Root height fuel (child ∷ []) from levels) (sym is)
      (record {
        tall = height;
        shallow = omega arith;
        tree = heads.0.tree;
        rows = sym (append-nil (rows_under height child));
        reach = λ number one. elim one [ inl here ↦ here | inr there ↦ absurd there ];
        pages = λ k within. absurd (let no : ⊥ = omega (arith, within, ap length none) in no);
        ascends = λ low rise. rising-ascends (edge low) (edge child.last) (tree_items form part height (number_of child.place)) rise.0;
      })
  one-root height fuel (child ∷ next ∷ more) from levels place some few none is heads = absurd (let no : ⊥ = omega (arith, few) in no)

  pub levels-root : (fuel height place : ℕ) (children : List Child) → 0 < length children → length children < most fuel → 0 < place → Each (Heads height) children →
      Stand part place (levels_pages fuel place children) → Root height fuel children place (levels_pages fuel place children) (root_place fuel place children)
  levels-root zero height place children some few past heads stand = one-root height zero children place [] (last_child children).place some (omega (arith, few)) refl refl heads
  levels-root (suc fuel) height place children some few past heads stand =
      let groups : List (List Child) = grouped (length children) children in
      let next : ℕ = place + length groups in
      let higher : List Child = level_children place groups in
      let more : List ℕ = levels_pages fuel next higher in
      elim (cases_lt 1 (length children)) [
        | inl many ↦
            let g : AreGroups (Heads height) (rows_under height) children groups = are-groups (Heads height) (rows_under height) (length children) children (omega (arith, many)) (omega arith) heads in
            let pages : levels_pages (suc fuel) place children ≡ level_pages groups ++ more =
            cond-false (nat_le (length children) 1) [] (level_pages groups ++ more) (lt-leb (length children) 1 many) in
            let root : root_place (suc fuel) place children ≡ root_place fuel next higher =
            cond-false (nat_le (length children) 1) (last_child children).place (root_place fuel next higher) (lt-leb (length children) 1 many) in
            let stand′ : Stand part place (level_pages groups ++ more) = subst (Stand part place) pages stand in
            let count : length higher ≡ length groups = length-level place groups in
            let size : length (level_pages groups) ≡ 4096 * length groups = level-size groups g.sizes in
            let here : Level height place groups higher = level height place groups g.sizes past g.each (stand-front part place (level_pages groups) more stand′) in
            let fewer : length groups < most fuel = elim g.count [ inl is ↦ omega (arith, is, most-some fuel) | inr is ↦ omega (arith, is, few) ] in
            let r : Root (suc height) fuel higher next more (root_place fuel next higher) =
            levels-root fuel (suc height) next higher (omega (arith, count, grouped-some (length children) children (omega (arith, many)))) (omega (arith, count, fewer)) (omega (arith, past)) here.heads
            (stand-back part place (length groups) (level_pages groups) more size stand′) in
            subst (Root height (suc fuel) children place (levels_pages (suc fuel) place children)) (sym root)
            (record {
              tall = r.tall;
              shallow = omega (arith, r.shallow);
              tree = r.tree;
              rows = r.rows ∙ here.rows ∙ g.same;
              reach = λ number one. r.reach number (here.reach number (some-groups (Reached height number) (length children) children (omega arith) one));
              pages = λ k within.
                  elim (cases_lt k (length groups)) [
                    | inl low ↦ r.reach (number_of (place + k)) (here.pages k (omega (arith, low, size)))
                    | inr high ↦
                        let j : ℕ = k - length groups in
                        let e : next + j ≡ place + k = omega (arith, high) in
                        subst (λ p. Reaches form part r.tall (number_of (root_place fuel next higher)) (number_of p)) e
                        (r.pages j (omega (arith, within, high, size, ap length pages, length-append (level_pages groups) more)))
                  ];
              ascends = λ low rise. r.ascends low (here.rises low (groups-rise order part height (length children) low children (omega arith) rise));
            })
        | inr one ↦
            let done = levels-done (suc fuel) place children one in
            one-root height (suc fuel) children place (levels_pages (suc fuel) place children) (root_place (suc fuel) place children) some one done.0 done.1 heads
      ]
