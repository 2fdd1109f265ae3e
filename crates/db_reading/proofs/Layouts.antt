-- The pages of a tree as a layout: nodes, and pages that hold the rest of rows.
use Rattle.std.proofs.Common.{◌≡◌, ◌≢◌, ℕ, ◌-◌, ◌<◌, ◌≤◌, ◌==◌, ◌&&◌, not, Bool, true, false, if◌then◌else◌, List, [], ◌∷◌, length, refl, sym, ◌∙◌, ap, arith, inl, inr, nat_le, nat_lt}
use Rattle.std.specs.Prelude.{Option, Some, None, unwrap_or}
use Rattle.std.proofs.lemmas.Bool.{and_from, and_parts, eq-eqb, eqb-true, false≢true, le-leb, leb-true, lt-ltb, ltb-true}
use Rattle.std.proofs.lemmas.Bool.Decides.{nat_tests}
use Rattle.sqlite_pages.specs.PageMap.{PageMap}
use Rattle.sqlite_btree.specs.Part.{AreApart, all_pages}
use Rattle.sqlite_btree.specs.Chain.{Layout}
use Rattle.sqlite_btree.specs.Stored.{IsLaidIn, Owns}
use Rattle.csv_source.specs.Lists.{is_empty}
use Rattle.db_pages.specs.Numbers.{number_of}
use Rattle.db_reading.specs.Whole.{IsSpanned}
use Rattle.db_reading.proofs.Roles.{IsPlaced, Role}

-- the place of a number
abbrev place_of : ℕ → ℕ
place_of number = if nat_lt number 262145 then number - 1 else number - 2

place-back : (place : ℕ) → place_of (number_of place) ≡ place
place-back place = grind (arith, nat_tests)

-- whether a number is that of a page from one place on, before another
abbrev is_spanned : ℕ → ℕ → ℕ → Bool
is_spanned first next number = nat_le first (place_of number) && (nat_lt (place_of number) next && (number_of (place_of number) == number))

span-in : (first next place : ℕ) → first ≤ place → place < next → is_spanned first next (number_of place) ≡ true
span-in first next place least less =
    ap (λ p. nat_le first p && (nat_lt p next && (number_of p == number_of place))) (place-back place)
    ∙ and_from (nat_le first place) (nat_lt place next && (number_of place == number_of place)) (le-leb first place least)
    (and_from (nat_lt place next) (number_of place == number_of place) (lt-ltb place next less) (eq-eqb (number_of place) (number_of place) refl))

span-out : (first next number : ℕ) → is_spanned first next number ≡ true → IsSpanned first next number
span-out first next number is =
    let one = and_parts (nat_le first (place_of number)) (nat_lt (place_of number) next && (number_of (place_of number) == number)) is in
    let two = and_parts (nat_lt (place_of number) next) (number_of (place_of number) == number) one.1 in
    (place_of number, leb-true first (place_of number) one.0, ltb-true (place_of number) next two.0, sym (eqb-true (number_of (place_of number)) number two.1))

-- the bytes of a page where a test says so
abbrev pub picked : Bool → List ℕ → List ℕ
picked test page = if test then page else []

picked-some : (test : Bool) (page : List ℕ) → picked test page ≢ [] → test ≡ true
picked-some true page some = refl
picked-some false page some = absurd (some refl)

picked-true : (test : Bool) (page : List ℕ) → test ≡ true → picked test page ≡ page
picked-true test page is = ap (λ t. picked t page) is

empty-is : (xs : List ℕ) → is_empty xs ≡ true → xs ≡ []
empty-is [] is = refl
empty-is (x ∷ xs) is = absurd (false≢true is)

some-is : (xs : List ℕ) → xs ≢ [] → is_empty xs ≡ false
some-is [] some = absurd (some refl)
some-is (x ∷ xs) some = refl

not-empty : (xs : List ℕ) → not (is_empty xs) ≡ true → xs ≢ []
not-empty [] is = absurd (false≢true is)
not-empty (x ∷ xs) is = λ none. omega (arith, ap length none)

live : (page : Option (List ℕ)) → unwrap_or page [] ≢ [] → page ≡ Some (unwrap_or page [])
live None some = absurd (some refl)
live (Some page) some = refl

module _ (pages : PageMap) (first next : ℕ) (role : Role) where
  abbrev is_node : ℕ → Bool
  is_node number = is_spanned first next number && is_empty (role number)

  abbrev is_link : ℕ → Bool
  is_link number = is_spanned first next number && not (is_empty (role number))

  abbrev pub tree_layout : Layout
  tree_layout =
      record { nodes = λ number. picked (is_node number) (all_pages pages number); spill = λ number. picked (is_link number) (all_pages pages number); owner = role }

  pub laid-in : IsLaidIn tree_layout pages
  laid-in = record {
    nodes = λ number some.
        let same : picked (is_node number) (all_pages pages number) ≡ all_pages pages number =
        picked-true (is_node number) (all_pages pages number) (picked-some (is_node number) (all_pages pages number) some) in
        live (pages number) (λ none. some (same ∙ none)) ∙ ap Some (sym same);
    spill = λ number some.
        let same : picked (is_link number) (all_pages pages number) ≡ all_pages pages number =
        picked-true (is_link number) (all_pages pages number) (picked-some (is_link number) (all_pages pages number) some) in
        live (pages number) (λ none. some (same ∙ none)) ∙ ap Some (sym same);
  }

  -- a node is one of the tree's pages, and holds the rest of no row
  pub node-out : (number : ℕ) → tree_layout.nodes number ≢ [] → IsSpanned first next number × (role number ≡ [])
  node-out number some =
      let parts = and_parts (is_spanned first next number) (is_empty (role number)) (picked-some (is_node number) (all_pages pages number) some) in
      (span-out first next number parts.0, empty-is (role number) parts.1)

  pub link-out : (number : ℕ) → tree_layout.spill number ≢ [] → IsSpanned first next number × (role number ≢ [])
  link-out number some =
      let parts = and_parts (is_spanned first next number) (not (is_empty (role number))) (picked-some (is_link number) (all_pages pages number) some) in
      (span-out first next number parts.0, not-empty (role number) parts.1)

  nothing-picked : (test : Bool) (page : List ℕ) → (test ≡ true → ⊥) → picked test page ≡ []
  nothing-picked true page none = absurd (none refl)
  nothing-picked false page none = refl

  pub apart : AreApart tree_layout.nodes tree_layout.spill
  apart number some =
      let empty : role number ≡ [] = (node-out number some).1 in
      nothing-picked (is_link number) (all_pages pages number)
      (λ is. not-empty (role number) (and_parts (is_spanned first next number) (not (is_empty (role number))) is).1 empty)

  pub placed : (place : ℕ) (page : List ℕ) → first ≤ place → place < next → all_pages pages (number_of place) ≡ page → IsPlaced tree_layout (role (number_of place)) (number_of place) page
  placed place page least less is =
      let number : ℕ = number_of place in
      let spanned : is_spanned first next number ≡ true = span-in first next place least less in
      record {
        node = λ empty.
            picked-true (is_node number) (all_pages pages number) (and_from (is_spanned first next number) (is_empty (role number)) spanned (ap is_empty empty)) ∙ is;
        link = λ some. (
          picked-true (is_link number) (all_pages pages number) (and_from (is_spanned first next number) (not (is_empty (role number))) spanned (ap not (some-is (role number) some))) ∙ is,
          refl,
        );
      }

  -- each page of the tree is one or the other
  pub owned : (place : ℕ) (page : List ℕ) → first ≤ place → place < next → all_pages pages (number_of place) ≡ page → page ≢ [] → Owns tree_layout (number_of place)
  owned place page least less is some = by-role (is_empty (role (number_of place))) refl
    where
      by-role : (test : Bool) → is_empty (role (number_of place)) ≡ test → Owns tree_layout (number_of place)
      by-role true empty = inl (λ none. some (sym ((placed place page least less is).node (empty-is (role (number_of place)) empty)) ∙ none))
      by-role false full =
          let real : role (number_of place) ≢ [] = λ none. false≢true (sym full ∙ ap is_empty none) in
          inr (λ none. some (sym ((placed place page least less is).link real).0 ∙ none))
