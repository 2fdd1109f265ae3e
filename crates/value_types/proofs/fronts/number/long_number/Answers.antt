use Rattle.std.proofs.Common.{◌≡◌, ◌+◌, ◌≤◌, ◌∙◌, ap, sym, List, ℕ, length, arith}
use Rattle.std.specs.Prelude.{slice_range}
use Rattle.std.specs.Char.{is_ascii_digit}
use Rattle.std.specs.List.{list_all}
use Rattle.value_types.specs.Digits.{natural_of}
use Rattle.value_types.proofs.IntTexts.{natural_of-append}
use Rattle.value_types.proofs.SeenDigits.{digits_parts}
use Rattle.value_types.proofs.SlicesInBytes.{length-slice, slice_split}
use Rattle.value_types.proofs.fronts.number.long_number.Goals as goal

-- the last eight end where all do
same_end : (from more : ℕ) → from + more + 8 ≡ from + 8 + more
same_end from more = omega arith

pub digits_at-back-requires-clause-digits : goal.digits_at-back-requires-clause-digits
digits_at-back-requires-clause-digits c =
    let bytes : List ℕ = c.args.bytes.now in
    let from = c.args.from in
    let more = c.args.more in
    let within : from + 8 + more ≤ length bytes = omega (arith, c.requires.few, c.requires.within) in
    ap (λ n. list_all is_ascii_digit (slice_range bytes (from + more) n)) (same_end from more)
    ∙ (digits_parts bytes from (from + more) (from + 8 + more) (omega arith) (omega arith) within c.requires.digits).1

pub digits_at-requires-clause-digits : goal.digits_at-requires-clause-digits
digits_at-requires-clause-digits c =
    let bytes : List ℕ = c.args.bytes.now in
    let from = c.args.from in
    let more = c.args.more in
    let within : from + 8 + more ≤ length bytes = omega (arith, c.requires.few, c.requires.within) in
    (digits_parts bytes from (from + more) (from + 8 + more) (omega arith) (omega arith) within c.requires.digits).0

pub returns-clause-value : goal.returns-clause-value
returns-clause-value c =
    let bytes : List ℕ = c.args.bytes.now in
    let from = c.args.from in
    let more = c.args.more in
    let middle : ℕ = from + more in
    let end : ℕ = from + 8 + more in
    let within : end ≤ length bytes = omega (arith, c.requires.few, c.requires.within) in
    ap natural_of (slice_split bytes from middle end (omega arith) (omega arith) within)
    ∙ natural_of-append (slice_range bytes from middle) (slice_range bytes middle end) c.digits_at.result c.digits_at-back.result c.digits_at.ensures.value
    (ap (λ n. natural_of (slice_range bytes middle n)) (sym (same_end from more)) ∙ c.digits_at-back.ensures.value)
    (length-slice bytes middle end within ∙ omega arith)
