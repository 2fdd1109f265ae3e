-- Pages that stand one behind another.
use Rattle.std.proofs.Common.{◌≡◌, ℕ, ◌+◌, ◌*◌, ◌/◌, ◌%◌, ◌<◌, ◌≤◌, List, ◌++◌, length, take, drop, ◌∙◌, ap, subst, arith, length-append, length-drop}
use Rattle.std.proofs.Math.Seq.{drop-append-add}
use Rattle.std.proofs.lemmas.Bool.Decides.{nat_tests}
use Rattle.std.proofs.lemmas.List.{take-append-le, drop-append-le, take_all}
use Rattle.sqlite_btree.specs.Part.{Part}
use Rattle.db_pages.specs.Laid.{next_place}
use Rattle.db_pages.specs.Numbers.{number_of}
use Rattle.db_reading.specs.Pages.{EachPage, Stand, page_at}

pub page-front : (xs ys : List ℕ) (k : ℕ) → 4096 * (k + 1) ≤ length xs → page_at (xs ++ ys) k ≡ page_at xs k
page-front xs ys k within =
    ap (λ bytes. take 4096 bytes) (drop-append-le (4096 * k) xs ys (omega (arith, within)))
    ∙ take-append-le 4096 (drop (4096 * k) xs) ys (omega (arith, within, length-drop (4096 * k) xs))

pub page-back : (xs ys : List ℕ) (n k : ℕ) → length xs ≡ 4096 * n → page_at (xs ++ ys) (n + k) ≡ page_at ys k
page-back xs ys n k whole =
    let e : 4096 * (n + k) ≡ length xs + 4096 * k = omega (arith, whole) in
    ap (λ from. take 4096 (drop from (xs ++ ys))) e ∙ ap (λ bytes. take 4096 bytes) (drop-append-add xs ys (4096 * k))

page-only : (page : List ℕ) → length page ≡ 4096 → page_at page 0 ≡ page
page-only page size = take_all 4096 page (omega (arith, size))

-- a page behind another has a larger number
pub number-up : (a b : ℕ) → a < b → number_of a < number_of b
number-up a b less = grind (arith, nat_tests)

pub number-least : (place k : ℕ) → number_of place ≤ number_of (place + k)
number-least place k = grind (arith, nat_tests)

module _ (P : ℕ → List ℕ → Type 0) where
  -- those in front
  pub each-front : (place : ℕ) (xs ys : List ℕ) → EachPage P place (xs ++ ys) → EachPage P place xs
  each-front place xs ys all =
      λ k within. subst (P (number_of (place + k))) (page-front xs ys k within) (all k (omega (arith, within, length-append xs ys)))

  -- those behind so many pages
  pub each-back : (place n : ℕ) (xs ys : List ℕ) → length xs ≡ 4096 * n → EachPage P place (xs ++ ys) → EachPage P (place + n) ys
  each-back place n xs ys whole all =
      λ k within.
      let e : place + (n + k) ≡ place + n + k = omega arith in
      subst (λ p. P (number_of p) (page_at ys k)) e
      (subst (P (number_of (place + (n + k)))) (page-back xs ys n k whole) (all (n + k) (omega (arith, within, whole, length-append xs ys))))

  -- those behind whole pages
  pub each-next : (place : ℕ) (xs ys : List ℕ) → length xs % 4096 ≡ 0 → EachPage P place (xs ++ ys) → EachPage P (next_place place xs) ys
  each-next place xs ys whole all = each-back place (length xs / 4096) xs ys (omega (arith, whole)) all

  -- a page alone
  pub each-page : (place : ℕ) (page : List ℕ) → length page ≡ 4096 → EachPage P place page → P (number_of place) page
  each-page place page size all =
      let e : place + 0 ≡ place = omega arith in
      subst (λ p. P (number_of p) page) e (subst (P (number_of (place + 0))) (page-only page size) (all 0 (omega (arith, size))))

  -- one page, whatever is behind it
  pub each-first : (place : ℕ) (page ys : List ℕ) → length page ≡ 4096 → EachPage P place (page ++ ys) → P (number_of place) page
  each-first place page ys size all = each-page place page size (each-front place page ys all)

module _ (part : Part) where
  abbrev IsThere : ℕ → List ℕ → Type 0
  IsThere number page = part number ≡ page

  pub stand-front : (place : ℕ) (xs ys : List ℕ) → Stand part place (xs ++ ys) → Stand part place xs
  stand-front = each-front IsThere

  pub stand-back : (place n : ℕ) (xs ys : List ℕ) → length xs ≡ 4096 * n → Stand part place (xs ++ ys) → Stand part (place + n) ys
  stand-back = each-back IsThere

  pub stand-next : (place : ℕ) (xs ys : List ℕ) → length xs % 4096 ≡ 0 → Stand part place (xs ++ ys) → Stand part (next_place place xs) ys
  stand-next = each-next IsThere

  pub stand-one : (place : ℕ) (page ys : List ℕ) → length page ≡ 4096 → Stand part place (page ++ ys) → part (number_of place) ≡ page
  stand-one = each-first IsThere
