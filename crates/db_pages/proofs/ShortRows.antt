-- Rows whose record stays whole.
use Rattle.std.proofs.Common.{◌≡◌, ℕ, ◌+◌, ◌<◌, ◌≤◌, List, ◌++◌, length, arith, length-append, nat_le}
use Rattle.std.proofs.lemmas.Bool.{cond-true, le-leb}
use Rattle.std.proofs.lemmas.Bool.Decides.{nat_tests}
use Rattle.db_records.specs.Record.{header_size, record_of, IsShortRecord}
use Rattle.db_records.specs.Varint.{varint}
use Rattle.db_pages.specs.Laid.{Laid, with_long, with_row, with_short}

-- the size of a short header is one byte
small : (n : ℕ) → n < 127 → length (varint (header_size n)) ≡ 1
small n few = grind (arith, nat_tests)

record-short : (types body : List ℕ) → IsShortRecord types body → length (record_of types body) ≤ 4061
record-short types body short =
    let whole : length (record_of types body) ≡ length (varint (header_size (length types)) ++ types) + length body = length-append (varint (header_size (length types)) ++ types) body in
    omega (arith, whole, small (length types) short.few, short.whole, length-append (varint (header_size (length types))) types)

pub short-row : (base : ℕ) (laid : Laid) (rowid : ℕ) (types body : List ℕ) → IsShortRecord types body →
    with_row base laid rowid (record_of types body) ≡ with_short base laid rowid (record_of types body)
short-row base laid rowid types body short =
    let row : List ℕ = record_of types body in
    cond-true (nat_le (length row) 4061) (with_short base laid rowid row) (with_long base laid rowid row) (le-leb (length row) 4061 (record-short types body short))
