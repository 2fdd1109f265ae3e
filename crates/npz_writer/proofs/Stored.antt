-- Rows that are put into a block one after another.
use Rattle.std.proofs.Common.{◌≡◌, ℕ, ◌+◌, ◌-◌, ◌*◌, ◌%◌, ◌/◌, ◌^◌, ◌<◌, ◌≤◌, List, [], ◌∷◌, ◌++◌, length, map, set, take, Some, refl, sym, ap, ◌∙◌, subst, arith, pos}
use Rattle.std.specs.Prelude.{flat_map, slice_get, slice_range}
use Rattle.std.specs.List.{range_with_len}
use Rattle.std.proofs.lemmas.List.{append-nil, take_more_set, map-append}
use Rattle.std.proofs.lemmas.List.Concat.{flat_map-append}
use Rattle.std.proofs.lemmas.List.Edits.{between_more}
use Rattle.std.proofs.lemmas.List.FromFn.{map-range_with_len_more}
use Rattle.std.proofs.lemmas.Option.{get_or_from_slice_get, slice_get_within}
use Rattle.value_types.specs.Datum.{Datum}
use Rattle.npz_writer.specs.Arrays.{ends_from, number_bytes, text_in}
use Rattle.npz_writer.specs.Blocks.{end_of}

-- ---- numbers

pub length-number_bytes : (z : _) → length (number_bytes z) ≡ 8
unfolding number_bytes
length-number_bytes z = refl

-- the bytes of a place are those of its lowest 64 bits
pub wrapped : (n : ℕ) → number_bytes (pos (n % 2 ^ 64)) ≡ number_bytes (pos n)
unfolding number_bytes
wrapped n =
    let b0 : n % 2 ^ 64 % 256 ≡ n % 256 = omega arith in
    let b1 : n % 2 ^ 64 / 256 % 256 ≡ n / 256 % 256 = omega arith in
    let b2 : n % 2 ^ 64 / 65536 % 256 ≡ n / 65536 % 256 = omega arith in
    let b3 : n % 2 ^ 64 / 16777216 % 256 ≡ n / 16777216 % 256 = omega arith in
    let b4 : n % 2 ^ 64 / 4294967296 % 256 ≡ n / 4294967296 % 256 = omega arith in
    let b5 : n % 2 ^ 64 / 1099511627776 % 256 ≡ n / 1099511627776 % 256 = omega arith in
    let b6 : n % 2 ^ 64 / 281474976710656 % 256 ≡ n / 281474976710656 % 256 = omega arith in
    let b7 : n % 2 ^ 64 / 72057594037927936 % 256 ≡ n / 72057594037927936 % 256 = omega arith in
    λ i. b0 i ∷ b1 i ∷ b2 i ∷ b3 i ∷ b4 i ∷ b5 i ∷ b6 i ∷ b7 i ∷ []

module _ {X : Type 0} (xs : List X) (from row : ℕ) (x : X) (ordered : from ≤ row) (there : slice_get xs row ≡ Some x) where
  -- one row more of some
  pub one_more : slice_range xs from (row + 1) ≡ slice_range xs from row ++ x ∷ []
  one_more =
      between_more xs from row x ordered (slice_get_within xs row x there) ∙ ap (λ y. slice_range xs from row ++ y ∷ []) (get_or_from_slice_get xs row x x there)

  -- one row more is stored, in eight bytes
  pub one_stored : (bytes_of : X → List ℕ) (before after bytes : List ℕ) → bytes ≡ bytes_of x → length bytes ≡ 8
      → take (8 * (row - from)) before ≡ flat_map bytes_of (slice_range xs from row)
      → take (8 * (row - from) + length bytes) after ≡ take (8 * (row - from)) before ++ bytes
      → take (8 * (row + 1 - from)) after ≡ flat_map bytes_of (slice_range xs from (row + 1))
  one_stored bytes_of before after bytes is long so_far stored =
      let size : 8 * (row + 1 - from) ≡ 8 * (row - from) + length bytes = omega (arith, ordered, long) in
      ap (λ n. take n after) size ∙ stored ∙ (λ i. so_far i ++ is i)
      ∙ sym (ap (flat_map bytes_of) one_more ∙ flat_map-append bytes_of (slice_range xs from row) (x ∷ []) ∙ ap (λ ys. flat_map bytes_of (slice_range xs from row) ++ ys) (append-nil (bytes_of x)))

  -- one row more is put, in one byte
  pub one_put : (byte_of : X → ℕ) (block : List ℕ) (byte : ℕ) → row - from < length block → byte ≡ byte_of x → take (row - from) block ≡ map byte_of (slice_range xs from row)
      → take (row + 1 - from) (set block (row - from) byte) ≡ map byte_of (slice_range xs from (row + 1))
  one_put byte_of block byte room is so_far =
      let size : row + 1 - from ≡ (row - from) + 1 = omega (arith, ordered) in
      ap (λ n. take n (set block (row - from) byte)) size ∙ take_more_set block (row - from) byte room ∙ (λ i. so_far i ++ is i ∷ [])
      ∙ sym (ap (map byte_of) one_more ∙ map-append byte_of (slice_range xs from row) (x ∷ []))

-- one place more is put, in one byte
pub one_place_put : (byte_of : ℕ → ℕ) (block : List ℕ) (from row byte : ℕ) → from ≤ row → row - from < length block → byte ≡ byte_of row
    → take (row - from) block ≡ map byte_of (range_with_len from (row - from)) → take (row + 1 - from) (set block (row - from) byte) ≡ map byte_of (range_with_len from (row + 1 - from))
one_place_put byte_of block from row byte ordered room is so_far =
    let size : row + 1 - from ≡ (row - from) + 1 = omega (arith, ordered) in
    subst (λ n. take n (set block (row - from) byte) ≡ map byte_of (range_with_len from n)) (sym size)
    (take_more_set block (row - from) byte room ∙ (λ i. so_far i ++ is i ∷ []) ∙ sym (map-range_with_len_more byte_of from (row - from) row (omega (arith, ordered))))

-- ---- ends of texts

pub end_of-append : (begin : ℕ) (xs ys : List Datum) → end_of begin (xs ++ ys) ≡ end_of (end_of begin xs) ys
end_of-append begin [] ys = refl
end_of-append begin (x ∷ xs) ys = end_of-append (begin + length (text_in x)) xs ys

pub ends_from-append : (begin : ℕ) (xs ys : List Datum) → ends_from begin (xs ++ ys) ≡ ends_from begin xs ++ ends_from (end_of begin xs) ys
ends_from-append begin [] ys = refl
ends_from-append begin (x ∷ xs) ys = ap (λ es. (begin + length (text_in x)) ∷ es) (ends_from-append (begin + length (text_in x)) xs ys)

abbrev pub place_bytes : ℕ → List ℕ
place_bytes end = number_bytes (pos end)

module _ (cells : List Datum) (from row : ℕ) (cell : Datum) (ordered : from ≤ row) (there : slice_get cells row ≡ Some cell) (begin end len : ℕ)
    (end_is : end ≡ end_of begin (slice_range cells from row) % 2 ^ 64) (len_is : len ≡ length (text_in cell)) where
  -- where the next text ends
  pub one_end : (end + len) % 2 ^ 64 ≡ end_of begin (slice_range cells from (row + 1)) % 2 ^ 64
  one_end =
      ap (λ n. (n + len) % 2 ^ 64) end_is ∙ (let same : (end_of begin (slice_range cells from row) % 2 ^ 64 + len) % 2 ^ 64 ≡ (end_of begin (slice_range cells from row) + length (text_in cell)) % 2 ^ 64 = omega (arith, len_is) in same)
      ∙ sym (ap (λ xs. end_of begin xs % 2 ^ 64) (one_more cells from row cell ordered there) ∙ ap (λ n. n % 2 ^ 64) (end_of-append begin (slice_range cells from row) (cell ∷ [])))

  -- it is stored
  pub end_stored : (before after bytes : List ℕ) → bytes ≡ place_bytes ((end + len) % 2 ^ 64) → take (8 * (row - from)) before ≡ flat_map place_bytes (ends_from begin (slice_range cells from row))
      → take (8 * (row - from) + length bytes) after ≡ take (8 * (row - from)) before ++ bytes
      → take (8 * (row + 1 - from)) after ≡ flat_map place_bytes (ends_from begin (slice_range cells from (row + 1)))
  end_stored before after bytes is before_is stored =
      let long : length bytes ≡ 8 = ap length is ∙ length-number_bytes (pos ((end + len) % 2 ^ 64)) in
      let size : 8 * (row + 1 - from) ≡ 8 * (row - from) + length bytes = omega (arith, ordered, long) in
      let front : List Datum = slice_range cells from row in
      let last : ℕ = end_of begin front + length (text_in cell) in
      let both : (end + len) % 2 ^ 64 ≡ last % 2 ^ 64 = ap (λ n. (n + len) % 2 ^ 64) end_is ∙ (let same : (end_of begin front % 2 ^ 64 + len) % 2 ^ 64 ≡ last % 2 ^ 64 = omega (arith, len_is) in same) in
      let bytes_are : bytes ≡ place_bytes last = is ∙ ap place_bytes both ∙ wrapped last in
      ap (λ n. take n after) size ∙ stored ∙ (λ i. before_is i ++ bytes_are i)
      ∙ sym (ap (λ xs. flat_map place_bytes (ends_from begin xs)) (one_more cells from row cell ordered there) ∙ ap (flat_map place_bytes) (ends_from-append begin front (cell ∷ []))
      ∙ flat_map-append place_bytes (ends_from begin front) (last ∷ []) ∙ ap (λ ys. flat_map place_bytes (ends_from begin front) ++ ys) (append-nil (place_bytes last)))
