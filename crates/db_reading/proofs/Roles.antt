-- Which pages are nodes of a tree, and which hold the rest of a row.
use Rattle.std.proofs.Common.{◌≡◌, ◌≢◌, ℕ, ◌<◌, ◌≤◌, if◌then◌else◌, List, [], ◌∙◌, nat_lt}
use Rattle.std.proofs.lemmas.Bool.{cond-true, cond-false, le-ltb, lt-ltb}
use Rattle.sqlite_btree.specs.Chain.{Layout}
use Rattle.db_reading.specs.Pages.{EachPage}

-- the row whose rest a page holds, by the page's number, and nothing for a node
abbrev pub Role : Type 0
Role = ℕ → List ℕ

-- a page is in a layout as its role says
pub record IsPlaced (layout : Layout) (row : List ℕ) (number : ℕ) (page : List ℕ) : Type 0 where
  pub node : row ≡ [] → layout.nodes number ≡ page
  pub link : row ≢ [] → (layout.spill number ≡ page) × (layout.owner number ≡ row)

abbrev pub Lies : Layout → Role → ℕ → List ℕ → Type 0
Lies layout role place bytes = EachPage (λ number page. IsPlaced layout (role number) number page) place bytes

-- pages from a number on, before another, hold the rest of a row
abbrev pub given : ℕ → ℕ → List ℕ → Role → Role
given from to row role number = if nat_lt number from then role number else (if nat_lt number to then row else role number)

module _ (from to : ℕ) (row : List ℕ) (role : Role) (number : ℕ) where
  pub given-before : number < from → given from to row role number ≡ role number
  given-before less = cond-true (nat_lt number from) (role number) (if nat_lt number to then row else role number) (lt-ltb number from less)

  pub given-in : from ≤ number → number < to → given from to row role number ≡ row
  given-in least less =
      cond-false (nat_lt number from) (role number) (if nat_lt number to then row else role number) (le-ltb number from least)
      ∙ cond-true (nat_lt number to) row (role number) (lt-ltb number to less)

  pub given-behind : from ≤ number → to ≤ number → given from to row role number ≡ role number
  given-behind least past =
      cond-false (nat_lt number from) (role number) (if nat_lt number to then row else role number) (le-ltb number from least)
      ∙ cond-false (nat_lt number to) row (role number) (le-ltb number to past)
