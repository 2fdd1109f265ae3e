-- The pages of a file, of which one is that of the locks.
use Rattle.std.proofs.Common.{◌≡◌, ℕ, suc, ◌+◌, ◌-◌, ◌*◌, ◌^◌, ◌<◌, ◌≤◌, List, [], ◌++◌, length, take, drop, replicate, sym, ◌∙◌, ap, subst, arith, inl, inr, length-append, length-take-le, nat_le, nat_lt}
use Rattle.std.specs.Prelude.{Option, Some, None, unwrap_or}
use Rattle.std.proofs.lemmas.Bool.{cases_lt, cond-true, cond-false, le-leb, le-ltb, lt-ltb}
use Rattle.std.proofs.lemmas.List.{length-replicate, take-append-drop}
use Rattle.sqlite_btree.specs.Part.{all_pages}
use Rattle.db_pages.specs.Image.{with_lock_page}
use Rattle.db_pages.specs.Numbers.{number_of}
use Rattle.db_pages.proofs.LockPage.{long_split, short_as_is, split_round}
use Rattle.db_reading.specs.Pages.{Stand, file_pages, page_at}
use Rattle.db_reading.proofs.Standing.{page-back, page-front}

-- the page of a number, where the file has it
page-found : (file : List ℕ) (number before : ℕ) → number ≡ suc before → 4096 * (before + 1) ≤ length file → all_pages (file_pages file) number ≡ page_at file before
page-found file number before is within =
    ap (all_pages (file_pages file)) is
    ∙ ap (λ (page : Option (List ℕ)). unwrap_or page [])
    (cond-true (nat_le (4096 * (before + 1)) (length file)) (Some (page_at file before)) None (le-leb (4096 * (before + 1)) (length file) within))

pub number-before : (place : ℕ) → place < 262144 → number_of place ≡ suc place
number-before place low = cond-true (nat_lt place 262144) (place + 1) (place + 2) (lt-ltb place 262144 low) ∙ (let e : place + 1 ≡ suc place = omega arith in e)

pub number-behind : (place : ℕ) → 262144 ≤ place → number_of place ≡ suc (place + 1)
number-behind place high = cond-false (nat_lt place 262144) (place + 1) (place + 2) (le-ltb place 262144 high) ∙ (let e : place + 2 ≡ suc (place + 1) = omega arith in e)

-- a file in two parts, the page of the locks between them
module _ (bytes low zeros high : List ℕ) (whole : low ++ high ≡ bytes) (low-size : length low ≡ 2 ^ 30) (zeros-size : length zeros ≡ 4096) where
  abbrev file : List ℕ
  file = low ++ (zeros ++ high)

  file-size : length file ≡ length bytes + 4096
  file-size = omega (arith, length-append low (zeros ++ high), length-append zeros high, length-append low high, ap length whole, zeros-size)

  low-within : 2 ^ 30 ≤ length bytes
  low-within = omega (arith, length-append low high, ap length whole, low-size)

  page-low : (place : ℕ) → place < 262144 → all_pages (file_pages file) (number_of place) ≡ page_at bytes place
  page-low place few =
      page-found file (number_of place) place (number-before place few) (omega (arith, few, low-within, file-size))
      ∙ page-front low (zeros ++ high) place (omega (arith, few, low-size))
      ∙ sym (page-front low high place (omega (arith, few, low-size)))
      ∙ ap (λ xs. page_at xs place) whole

  page-high : (place : ℕ) → 262144 ≤ place → 4096 * (place + 1) ≤ length bytes → all_pages (file_pages file) (number_of place) ≡ page_at bytes place
  page-high place many within =
      let j : ℕ = place - 262144 in
      let next : place + 1 ≡ 262144 + (1 + j) = omega (arith, many) in
      let here : 262144 + j ≡ place = omega (arith, many) in
      page-found file (number_of place) (place + 1) (number-behind place many) (omega (arith, within, file-size))
      ∙ ap (λ k. page_at file k) next
      ∙ page-back low (zeros ++ high) 262144 (1 + j) (omega (arith, low-size))
      ∙ page-back zeros high 1 j (omega (arith, zeros-size))
      ∙ sym (page-back low high 262144 j (omega (arith, low-size)))
      ∙ ap (λ xs. page_at xs (262144 + j)) whole
      ∙ ap (λ k. page_at bytes k) here

  parts-stand : Stand (all_pages (file_pages file)) 0 bytes
  parts-stand = λ k within.
      let e : 0 + k ≡ k = omega arith in
      ap (λ place. all_pages (file_pages file) (number_of place)) e ∙ elim (cases_lt k 262144) [ inl few ↦ page-low k few | inr many ↦ page-high k many within ]

long-stands : (bytes : List ℕ) → 2 ^ 30 < length bytes → Stand (all_pages (file_pages (split_round bytes))) 0 bytes
long-stands bytes long =
    parts-stand bytes (take (2 ^ 30) bytes) (replicate 4096 0) (drop (2 ^ 30) bytes) (take-append-drop (2 ^ 30) bytes) (length-take-le (2 ^ 30) bytes (omega (arith, long)))
    (length-replicate {A = ℕ} 4096 0)

short-stands : (bytes : List ℕ) → length bytes ≤ 2 ^ 30 → Stand (all_pages (file_pages bytes)) 0 bytes
short-stands bytes short = λ k within.
    let e : 0 + k ≡ k = omega arith in
    ap (λ place. all_pages (file_pages bytes) (number_of place)) e ∙ page-found bytes (number_of k) k (number-before k (omega (arith, within, short))) within

-- pages are found in a file by the numbers of their places
pub file-stands : (bytes : List ℕ) → Stand (all_pages (file_pages (with_lock_page bytes))) 0 bytes
file-stands bytes =
    elim (cases_lt (2 ^ 30) (length bytes)) [
      | inl long ↦ subst (λ file. Stand (all_pages (file_pages file)) 0 bytes) (sym (long_split bytes long)) (long-stands bytes long)
      | inr short ↦ subst (λ file. Stand (all_pages (file_pages file)) 0 bytes) (sym (short_as_is bytes short)) (short-stands bytes short)
    ]

pub file-longer : (bytes : List ℕ) → length bytes ≤ length (with_lock_page bytes)
file-longer bytes =
    elim (cases_lt (2 ^ 30) (length bytes)) [
      | inl long ↦
          let low : List ℕ = take (2 ^ 30) bytes in
          let high : List ℕ = drop (2 ^ 30) bytes in
          omega (
            arith,
            ap length (long_split bytes long),
            file-size bytes low (replicate 4096 0) high (take-append-drop (2 ^ 30) bytes) (length-take-le (2 ^ 30) bytes (omega (arith, long))) (length-replicate {A = ℕ} 4096 0),
          )
      | inr short ↦ omega (arith, ap length (short_as_is bytes short))
    ]
