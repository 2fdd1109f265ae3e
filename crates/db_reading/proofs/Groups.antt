-- Pages in groups.
use Rattle.std.proofs.Common.{◌≡◌, ℕ, zero, suc, ◌-◌, ◌*◌, ◌<◌, ◌≤◌, ◌⊎◌, List, [], ◌∷◌, ◌++◌, length, take, drop, flat_map, refl, sym, ◌∙◌, ap, subst, arith, inl, inr, append-nil, length-append, length-drop, length-take-le}
use Rattle.std.proofs.lemmas.Bool.{cases_lt}
use Rattle.std.proofs.lemmas.Grind.{flat_map-append}
use Rattle.std.proofs.lemmas.List.{take-append-drop}
use Rattle.sqlite_btree.specs.Cut.{Each}
use Rattle.db_pages.specs.declared.child.Child.{Child}
use Rattle.db_pages.specs.Levels.{grouped, level_pages, page_above}
use Rattle.db_pages.proofs.Grouping.{grouped-last, grouped-more}
use Rattle.db_pages.proofs.WholeTrees.{above-whole}
use Rattle.db_reading.proofs.Each.{each-drop, each-take}

-- a page has at least two others under it, and fewer than 256
abbrev pub IsGroup : List Child → Type 0
IsGroup group = (2 ≤ length group) × (length group < 256)

-- groups keep what is known of each page, and their order
pub record AreGroups (P : Child → Type 0) {X : Type 0} (f : Child → List X) (children : List Child) (groups : List (List Child)) : Type 0 where
  pub each : Each (Each P) groups
  pub sizes : Each IsGroup groups
  pub same : flat_map (λ (group : List Child). flat_map f group) groups ≡ flat_map f children
  pub count : (length groups ≡ 1) ⊎ (128 * length groups ≤ length children)

module _ (P : Child → Type 0) {X : Type 0} (f : Child → List X) where
  last-group : (fuel : ℕ) (children : List Child) → 2 ≤ length children → length children < 256 → Each P children → AreGroups P f children (grouped (suc fuel) children)
  last-group fuel children some few all =
      subst (AreGroups P f children) (sym (grouped-last fuel children few))
      (record { each = (all, tt); sizes = ((some, few), tt); same = append-nil (flat_map f children); count = inl refl })

  more-groups : (fuel : ℕ) (children : List Child) → 256 ≤ length children → Each P children → AreGroups P f (drop 128 children) (grouped fuel (drop 128 children)) →
      AreGroups P f children (grouped (suc fuel) children)
  more-groups fuel children many all others =
      let front : List Child = take 128 children in
      let behind : List Child = drop 128 children in
      let count : length front ≡ 128 = length-take-le 128 children (omega (arith, many)) in
      let left : length behind ≡ length children - 128 = length-drop 128 children in
      let size : IsGroup front = (omega (arith, count), omega (arith, count)) in
      subst (AreGroups P f children) (sym (grouped-more fuel children many))
      (record {
        each = (each-take P 128 children all, others.each);
        sizes = (size, others.sizes);
        same = ap (λ xs. flat_map f front ++ xs) others.same ∙ sym (flat_map-append f front behind) ∙ ap (flat_map f) (take-append-drop 128 children);
        count = inr (elim others.count [ inl one ↦ omega (arith, one, many) | inr fewer ↦ omega (arith, fewer, left, many) ]);
      })

  pub are-groups : (fuel : ℕ) (children : List Child) → 2 ≤ length children → length children ≤ fuel → Each P children → AreGroups P f children (grouped fuel children)
  are-groups zero children some enough all = absurd (let no : ⊥ = omega (arith, some, enough) in no)
  are-groups (suc fuel) children some enough all =
      let left : length (drop 128 children) ≡ length children - 128 = length-drop 128 children in
      elim (cases_lt (length children) 256) [
        | inl few ↦ last-group fuel children some few all
        | inr many ↦
            more-groups fuel children many all
            (are-groups fuel (drop 128 children) (omega (arith, left, many)) (omega (arith, left, many, enough)) (each-drop P 128 children all))
      ]

-- the pages of a level, one for each group
pub level-size : (groups : List (List Child)) → Each IsGroup groups → length (level_pages groups) ≡ 4096 * length groups
level-size [] sizes = refl
level-size (group ∷ groups) sizes = omega (arith, length-append (page_above group) (level_pages groups), above-whole group sizes.0.1, level-size groups sizes.1)

pub grouped-some : (fuel : ℕ) (children : List Child) → 0 < fuel → 0 < length (grouped fuel children)
grouped-some zero children some = absurd (let no : ⊥ = omega (arith, some) in no)
grouped-some (suc fuel) children some =
    elim (cases_lt (length children) 256) [
      | inl few ↦ omega (arith, ap length (grouped-last fuel children few))
      | inr many ↦ omega (arith, ap length (grouped-more fuel children many))
    ]

-- a fact of some element
abbrev pub Some-of : {X : Type 0} → (X → Type 0) → List X → Type 0
Some-of P [] = ⊥
Some-of P (x ∷ xs) = P x ⊎ Some-of P xs

some-split : (Q : Child → Type 0) (n : ℕ) (children : List Child) → Some-of Q children → Some-of Q (take n children) ⊎ Some-of Q (drop n children)
some-split Q zero children some = inr some
some-split Q (suc n) [] some = absurd some
some-split Q (suc n) (child ∷ children) some =
    elim some [
      | inl here ↦ inl (inl here)
      | inr there ↦ elim (some-split Q n children there) [ inl front ↦ inl (inr front) | inr behind ↦ inr behind ]
    ]

pub some-groups : (Q : Child → Type 0) (fuel : ℕ) (children : List Child) → length children ≤ fuel → Some-of Q children → Some-of (Some-of Q) (grouped fuel children)
some-groups Q zero [] enough some = absurd some
some-groups Q zero (child ∷ children) enough some = absurd (let no : ⊥ = omega (arith, enough) in no)
some-groups Q (suc fuel) children enough some =
    elim (cases_lt (length children) 256) [
      | inl few ↦ subst (Some-of (Some-of Q)) (sym (grouped-last fuel children few)) (inl some)
      | inr many ↦
          subst (Some-of (Some-of Q)) (sym (grouped-more fuel children many))
          (elim (some-split Q 128 children some) [
            | inl front ↦ inl front
            | inr behind ↦ inr (some-groups Q fuel (drop 128 children) (omega (arith, many, enough, length-drop 128 children)) behind)
          ])
    ]
