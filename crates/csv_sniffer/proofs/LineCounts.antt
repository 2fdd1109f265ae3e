-- Physical lines that are counted from place to place.
use Rattle.std.proofs.Common.{◌≡◌, ℕ, zero, suc, ◌+◌, ◌-◌, ◌≤◌, List, [], ◌∷◌, ◌++◌, length, take, drop, Option, Some, None, refl, sym, ap, ◌∙◌, add_assoc, arith}
use Rattle.std.specs.Prelude.{slice_range}
use Rattle.std.specs.List.{last_or}
use Rattle.std.specs.Option.{option_or}
use Rattle.std.proofs.lemmas.List.{length-take}
use Rattle.byte_classes.specs.LineEnds.{line_ends}
use Rattle.byte_classes.proofs.LineEndLaws.{line_ends-append, line_ends-le}
use Rattle.csv_sniffer.specs.Entries.{line_at}

-- the last byte of a list, or else another one
some_last : (o : Option ℕ) (x : ℕ) (xs : List ℕ) → option_or (last_or (Some x) xs) o ≡ last_or (Some x) xs
some_last o x [] = refl
some_last o x (y ∷ ys) = some_last o y ys

pub last_or-or : (o : Option ℕ) (xs : List ℕ) → option_or (last_or None xs) o ≡ last_or o xs
last_or-or o [] = refl
last_or-or o (x ∷ xs) = some_last o x xs

take-none : (n : ℕ) → take {A = ℕ} n [] ≡ []
take-none zero = refl
take-none (suc n) = refl

-- the bytes up to a place go on from an earlier one
take_on : (xs : List ℕ) (at place : ℕ) → at ≤ place → take place xs ≡ take at xs ++ slice_range xs at place
take_on xs zero place le = ap (λ n. take n xs) (let all : place ≡ place - 0 = omega arith in all)
take_on [] (suc at) place le = take-none place ∙ sym (take-none (place - suc at))
take_on (x ∷ xs) (suc at) zero le = absurd (let no : ⊥ = omega (arith, le) in no)
take_on (x ∷ xs) (suc at) (suc place) le =
    let less : place - at ≡ suc place - suc at = omega arith in
    ap (λ rest. x ∷ rest) (take_on xs at place (omega (arith, le)) ∙ ap (λ n. take at xs ++ take n (drop at xs)) less)

-- the line of a place, counted on from an earlier one
pub line_on : (front sample : List ℕ) (at place : ℕ) (before : Option ℕ) → at ≤ place → before ≡ option_or (last_or None (take at sample)) (last_or None front) →
    line_at front sample at + line_ends before (slice_range sample at place) ≡ line_at front sample place
line_on front sample at place before le is =
    let base : ℕ = 1 + line_ends None front in
    let last : Option ℕ = last_or None front in
    let here : before ≡ last_or last (take at sample) = is ∙ last_or-or last (take at sample) in
    add_assoc base (line_ends last (take at sample)) (line_ends before (slice_range sample at place))
    ∙ ap (λ b. base + (line_ends last (take at sample) + line_ends b (slice_range sample at place))) here
    ∙ ap (λ n. base + n) (sym (line_ends-append last (take at sample) (slice_range sample at place)))
    ∙ ap (λ xs. base + line_ends last xs) (sym (take_on sample at place le))

-- the same by what is read on the way
pub line_counted : (front sample : List ℕ) (at place line count : ℕ) (before here last : Option ℕ) → at ≤ place → line ≡ line_at front sample at → count ≡ line_ends before (slice_range sample at place) →
    before ≡ option_or here last → here ≡ last_or None (take at sample) → last ≡ last_or None front → line + count ≡ line_at front sample place
line_counted front sample at place line count before here last le is counted either own other =
    (λ i. is i + counted i) ∙ line_on front sample at place before le (either ∙ (λ i. option_or (own i) (other i)))

-- a line is bounded by the bytes before it
pub line_at-le : (front sample : List ℕ) (place : ℕ) → line_at front sample place ≤ 1 + length front + length sample
line_at-le front sample place =
    omega (arith, line_ends-le None front, line_ends-le (last_or None front) (take place sample), length-take place sample)
