-- The sample of bytes is no longer than they are, and no longer than its limit.
use Rattle.std.proofs.Common.{◌≡◌, ℕ, suc, ◌-◌, ◌≤◌, Bool, true, false, cond, List, [], ◌∷◌, length, take, None, refl, ap, ◌∙◌, arith, length-take, leb-true}
use Rattle.std.specs.Prelude.{slice_get}
use Rattle.std.specs.List.{last_or}
use Rattle.byte_classes.specs.Dialect.{is_byte}
use Rattle.csv_sniffer.specs.Sample.{sample_of, sample_limit, is_whole, without_last_cr}

-- the last byte stands before the length
pub last_is_at : (xs : List ℕ) → last_or None xs ≡ slice_get xs (length xs - 1)
last_is_at [] = refl
last_is_at (x ∷ []) = refl
last_is_at (x ∷ (y ∷ ys)) =
    let less : suc (length (y ∷ ys) - 1) ≡ length (x ∷ (y ∷ ys)) - 1 = omega arith in
    last_is_at (y ∷ ys) ∙ ap (slice_get (x ∷ (y ∷ ys))) less

-- ---- a sample is no longer than its bytes

short_cond : (b : Bool) (xs ys : List ℕ) (n : ℕ) → length xs ≤ n → length ys ≤ n → length (cond b xs ys) ≤ n
short_cond true xs ys n left right = left
short_cond false xs ys n left right = right

short_take : (n : ℕ) (xs : List ℕ) → length (take n xs) ≤ length xs
short_take n xs = omega (arith, length-take n xs)

short_take_at : (n : ℕ) (xs : List ℕ) → length (take n xs) ≤ n
short_take_at n xs = omega (arith, length-take n xs)

at_most : (a b c : ℕ) → a ≤ b → b ≤ c → a ≤ c
at_most a b c h k = omega arith

pub without_last_cr-short : (xs : List ℕ) → length (without_last_cr xs) ≤ length xs
without_last_cr-short xs = let same : length xs ≤ length xs = omega arith in
    short_cond (is_byte (last_or None xs) 13) (take (length xs - 1) xs) xs (length xs) (short_take (length xs - 1) xs) same

pub sample-short : (bytes : List ℕ) → length (sample_of bytes) ≤ length bytes
sample-short bytes = let same : length bytes ≤ length bytes = omega arith in
    short_cond (is_whole bytes) bytes (without_last_cr (take sample_limit bytes)) (length bytes) same
    (at_most (length (without_last_cr (take sample_limit bytes))) (length (take sample_limit bytes)) (length bytes) (without_last_cr-short (take sample_limit bytes)) (short_take sample_limit bytes))

-- the sample of more bytes than a sample may have
pub cut_sample-short : (bytes : List ℕ) → length (without_last_cr (take sample_limit bytes)) ≤ sample_limit
cut_sample-short bytes =
    at_most (length (without_last_cr (take sample_limit bytes))) (length (take sample_limit bytes)) sample_limit (without_last_cr-short (take sample_limit bytes)) (short_take_at sample_limit bytes)

limited_cond : (whole : Bool) (bytes cut : List ℕ) (n : ℕ) → (whole ≡ true → length bytes ≤ n) → length cut ≤ n → length (cond whole bytes cut) ≤ n
limited_cond true bytes cut n fits short = fits refl
limited_cond false bytes cut n fits short = short

-- a sample is no longer than it may be
pub sample-limited : (bytes : List ℕ) → length (sample_of bytes) ≤ sample_limit
sample-limited bytes =
    limited_cond (is_whole bytes) bytes (without_last_cr (take sample_limit bytes)) sample_limit (λ whole. leb-true (length bytes) sample_limit whole) (cut_sample-short bytes)
