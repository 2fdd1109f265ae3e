-- The sizes of cells and chains.
use Rattle.std.proofs.Common.{◌≡◌, ℕ, zero, suc, ◌+◌, ◌-◌, ◌%◌, ◌<◌, ◌≤◌, List, ◌++◌, length, take, drop, replicate, refl, ap, arith, inl, inr, length-append, length-take-le}
use Rattle.std.proofs.lemmas.Bool.{cases_lt}
use Rattle.std.proofs.lemmas.Bool.Decides.{nat_tests}
use Rattle.std.proofs.lemmas.List.{length-replicate}
use Rattle.sqlite_format.specs.declared.kind.Tree.TheVariants.{Table}
use Rattle.sqlite_format.specs.Cell.{local_len}
use Rattle.db_records.specs.Varint.{varint}
use Rattle.db_records.specs.Cell.{cell_bytes}
use Rattle.db_records.proofs.Varints.{digits-few, varint-size}
use Rattle.db_pages.specs.Numbers.{four_bytes, number_of}
use Rattle.db_pages.specs.Laid.{chain, long_cell}
use Rattle.db_pages.proofs.Chains.{chain-last, chain-more}

pub varint-short : (n : ℕ) → length (varint n) ≤ 8
varint-short n = omega (arith, varint-size n, digits-few n)

pub local-most : (n : ℕ) → local_len Table 4096 n ≤ 4061
unfolding local_len
local-most n = grind (arith, nat_tests)

pub local-within : (n : ℕ) → local_len Table 4096 n ≤ n
unfolding local_len
local-within n = grind (arith, nat_tests)

pub short-size : (rowid : ℕ) (row : List ℕ) → length row ≤ 4061 → length (cell_bytes rowid row) ≤ 4086
short-size rowid row short =
    let a : List ℕ = varint (length row) in
    let b : List ℕ = varint rowid in
    omega (arith, short, length-append a (b ++ row), length-append b row, varint-short (length row), varint-short rowid)

pub long-size : (place rowid : ℕ) (row : List ℕ) → length (long_cell place rowid row) ≤ 4086
long-size place rowid row =
    let a : List ℕ = varint (length row) in
    let b : List ℕ = varint rowid in
    let n : ℕ = local_len Table 4096 (length row) in
    let d : List ℕ = take n row in
    let e : List ℕ = four_bytes (number_of place) in
    let four : length e ≡ 4 = refl in
    omega (
      arith,
      four,
      length-append a (b ++ (d ++ e)),
      length-append b (d ++ e),
      length-append d e,
      length-take-le n row (local-within (length row)),
      local-most (length row),
      varint-short (length row),
      varint-short rowid,
    )

-- pages in which a record goes on are whole
pub chain-whole : (fuel place : ℕ) (rest : List ℕ) → length (chain fuel place rest) % 4096 ≡ 0
chain-whole zero place rest = refl
chain-whole (suc fuel) place rest =
    elim (cases_lt 4092 (length rest)) [
      | inl long ↦
          let more : List ℕ = chain fuel (place + 1) (drop 4092 rest) in
          let number : List ℕ = four_bytes (number_of (place + 1)) in
          let four : length number ≡ 4 = refl in
          omega (
            arith,
            ap length (chain-more fuel place rest long),
            four,
            length-append number (take 4092 rest ++ more),
            length-append (take 4092 rest) more,
            length-take-le 4092 rest (omega (arith, long)),
            chain-whole fuel (place + 1) (drop 4092 rest),
          )
      | inr short ↦
          let zeros : List ℕ = replicate (4092 - length rest) 0 in
          let none : List ℕ = four_bytes 0 in
          let four : length none ≡ 4 = refl in
          omega (arith, ap length (chain-last fuel place rest short), four, length-append none (rest ++ zeros), length-append rest zeros, length-replicate {A = ℕ} (4092 - length rest) 0, short)
    ]

-- and there is one
pub chain-some : (fuel place : ℕ) (rest : List ℕ) → 0 < fuel → 0 < length (chain fuel place rest)
chain-some zero place rest some = absurd (let no : ⊥ = omega (arith, some) in no)
chain-some (suc fuel) place rest some =
    elim (cases_lt 4092 (length rest)) [
      | inl long ↦
          let more : List ℕ = chain fuel (place + 1) (drop 4092 rest) in
          let number : List ℕ = four_bytes (number_of (place + 1)) in
          let four : length number ≡ 4 = refl in
          omega (arith, ap length (chain-more fuel place rest long), four, length-append number (take 4092 rest ++ more))
      | inr short ↦
          let zeros : List ℕ = replicate (4092 - length rest) 0 in
          let none : List ℕ = four_bytes 0 in
          let four : length none ≡ 4 = refl in
          omega (arith, ap length (chain-last fuel place rest short), four, length-append none (rest ++ zeros))
    ]
