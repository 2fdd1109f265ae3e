-- Levels of pages above others.
use Rattle.std.proofs.Common.{◌≡◌, ℕ, zero, suc, ◌+◌, ◌-◌, ◌<◌, ◌≤◌, List, [], ◌∷◌, ◌++◌, length, take, drop, refl, sym, ◌∙◌, ap, arith, inl, inr, append_assoc, append-nil, length-drop, nat_lt, nat_le}
use Rattle.std.proofs.lemmas.Bool.{cases_lt, cond-true, cond-false, lt-ltb, le-ltb, le-leb, lt-leb}
use Rattle.db_pages.specs.declared.child.Child.{Child}
use Rattle.db_pages.specs.Levels.{grouped, last_child, level_children, level_pages, levels_pages, page_above, root_place}

pub grouped-last : (fuel : ℕ) (children : List Child) → length children < 256 → grouped (suc fuel) children ≡ children ∷ []
grouped-last fuel children few = cond-true (nat_lt (length children) 256) (children ∷ []) (take 128 children ∷ grouped fuel (drop 128 children)) (lt-ltb (length children) 256 few)

pub grouped-more : (fuel : ℕ) (children : List Child) → 256 ≤ length children → grouped (suc fuel) children ≡ take 128 children ∷ grouped fuel (drop 128 children)
grouped-more fuel children many = cond-false (nat_lt (length children) 256) (children ∷ []) (take 128 children ∷ grouped fuel (drop 128 children)) (le-ltb (length children) 256 many)

-- enough is as good as more
pub grouped-enough : (fuel more : ℕ) (children : List Child) → 0 < length children → length children ≤ fuel → length children ≤ more → grouped fuel children ≡ grouped more children
grouped-enough zero more children some enough others = absurd (let no : ⊥ = omega (arith, some, enough) in no)
grouped-enough (suc fuel) zero children some enough others = absurd (let no : ⊥ = omega (arith, some, others) in no)
grouped-enough (suc fuel) (suc more) children some enough others =
    elim (cases_lt (length children) 256) [
      | inl few ↦ grouped-last fuel children few ∙ sym (grouped-last more children few)
      | inr many ↦
          grouped-more fuel children many
          ∙ ap (λ gs. take 128 children ∷ gs)
          (grouped-enough fuel more (drop 128 children) (omega (arith, many, length-drop 128 children)) (omega (arith, many, enough, length-drop 128 children)) (omega (arith, many, others, length-drop 128 children)))
          ∙ sym (grouped-more more children many)
    ]

-- the groups of a level
abbrev pub groups_of : List Child → List (List Child)
groups_of children = grouped (length children) children

pub groups-last : (children : List Child) → 0 < length children → length children < 256 → groups_of children ≡ children ∷ []
groups-last [] some few = absurd (let no : ⊥ = omega (arith, some) in no)
groups-last (child ∷ children) some few = grouped-last (length children) (child ∷ children) few

pub groups-more : (children group behind : List Child) → 256 ≤ length children → group ≡ take 128 children → behind ≡ drop 128 children →
    groups_of children ≡ group ∷ groups_of behind
groups-more [] group behind many one two = absurd (let no : ⊥ = omega (arith, many) in no)
groups-more (child ∷ children) group behind many one two =
    let left : length (drop 128 (child ∷ children)) ≡ length (child ∷ children) - 128 = length-drop 128 (child ∷ children) in
    grouped-more (length children) (child ∷ children) many
    ∙ ap (λ gs. take 128 (child ∷ children) ∷ gs)
    (grouped-enough (length children) (length (drop 128 (child ∷ children))) (drop 128 (child ∷ children)) (omega (arith, many, left)) (omega (arith, many, left)) (omega arith))
    ∙ ap (λ gs. take 128 (child ∷ children) ∷ groups_of gs) (sym two)
    ∙ ap (λ g. g ∷ groups_of behind) (sym one)

-- a group more was appended, and fewer are left
pub pages-step : (children group behind : List Child) (old into new : List ℕ) → 256 ≤ length children → group ≡ take 128 children → behind ≡ drop 128 children →
    old ≡ into ++ level_pages (groups_of children) → new ≡ into ++ page_above group → old ≡ new ++ level_pages (groups_of behind)
pages-step children group behind old into new many one two before more =
    before ∙ ap (λ gs. into ++ level_pages gs) (groups-more children group behind many one two)
    ∙ sym (append_assoc into (page_above group) (level_pages (groups_of behind))) ∙ ap (λ xs. xs ++ level_pages (groups_of behind)) (sym more)

pub level-step : (place next : ℕ) (children group behind : List Child) (old level new : List Child) → 256 ≤ length children → next ≡ place + 1 →
    group ≡ take 128 children → behind ≡ drop 128 children →
    old ≡ level ++ level_children place (groups_of children) → new ≡ level ++ (record { place = place; last = (last_child group).last }) ∷ [] →
    old ≡ new ++ level_children next (groups_of behind)
level-step place next children group behind old level new many follows one two before more =
    let here : Child = record { place = place; last = (last_child group).last } in
    before ∙ ap (λ gs. level ++ level_children place gs) (groups-more children group behind many one two)
    ∙ ap (λ p. level ++ here ∷ level_children p (groups_of behind)) (sym follows)
    ∙ sym (append_assoc level (here ∷ []) (level_children next (groups_of behind))) ∙ ap (λ xs. xs ++ level_children next (groups_of behind)) (sym more)

pub pages-end : (children : List Child) (old into new : List ℕ) → 0 < length children → length children < 256 →
    old ≡ into ++ level_pages (groups_of children) → new ≡ into ++ page_above children → new ≡ old
pages-end children old into new some few before more =
    more ∙ ap (λ xs. into ++ xs) (sym (append-nil (page_above children))) ∙ ap (λ gs. into ++ level_pages gs) (sym (groups-last children some few)) ∙ sym before

pub level-end : (place : ℕ) (children old level new : List Child) → 0 < length children → length children < 256 →
    old ≡ level ++ level_children place (groups_of children) → new ≡ level ++ (record { place = place; last = (last_child children).last }) ∷ [] → new ≡ old
level-end place children old level new some few before more =
    more ∙ ap (λ gs. level ++ level_children place gs) (sym (groups-last children some few)) ∙ sym before

pub length-level : (place : ℕ) (groups : List (List Child)) → length (level_children place groups) ≡ length groups
length-level place [] = refl
length-level place (children ∷ groups) = omega (arith, length-level (place + 1) groups)

-- no level more
pub levels-done : (fuel place : ℕ) (children : List Child) → length children ≤ 1 → (levels_pages fuel place children ≡ []) × (root_place fuel place children ≡ (last_child children).place)
levels-done zero place children few = (refl, refl)
levels-done (suc fuel) place children few =
    let groups = groups_of children in (
      cond-true (nat_le (length children) 1) [] (level_pages groups ++ levels_pages fuel (place + length groups) (level_children place groups)) (le-leb (length children) 1 few),
      cond-true (nat_le (length children) 1) (last_child children).place (root_place fuel (place + length groups) (level_children place groups)) (le-leb (length children) 1 few),
    )

-- one level more
pub levels-more : (fuel place next : ℕ) (children level : List Child) → 0 < fuel → 1 < length children →
    level ≡ level_children place (groups_of children) → next ≡ place + length level →
    (levels_pages fuel place children ≡ level_pages (groups_of children) ++ levels_pages (fuel - 1) next level) × (root_place fuel place children ≡ root_place (fuel - 1) next level)
levels-more zero place next children level some many is follows = absurd (let no : ⊥ = omega (arith, some) in no)
levels-more (suc fuel) place next children level some many is follows =
    let groups = groups_of children in
    let left : fuel ≡ suc fuel - 1 = omega arith in
    let count : place + length groups ≡ next = omega (arith, follows, ap length is, length-level place groups) in (
      cond-false (nat_le (length children) 1) [] (level_pages groups ++ levels_pages fuel (place + length groups) (level_children place groups)) (lt-leb (length children) 1 many)
          ∙ ap (λ p. level_pages groups ++ levels_pages fuel p (level_children place groups)) count
          ∙ ap (λ cs. level_pages groups ++ levels_pages fuel next cs) (sym is)
          ∙ ap (λ f. level_pages groups ++ levels_pages f next level) left,
      cond-false (nat_le (length children) 1) (last_child children).place (root_place fuel (place + length groups) (level_children place groups)) (lt-leb (length children) 1 many)
          ∙ ap (λ p. root_place fuel p (level_children place groups)) count
          ∙ ap (λ cs. root_place fuel next cs) (sym is)
          ∙ ap (λ f. root_place f next level) left,
    )
