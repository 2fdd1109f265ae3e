-- The last bytes of a number, shifted to the front of eight.
use Rattle.std.proofs.Common.{◌≡◌, ℕ, zero, suc, ◌-◌, ◌*◌, ◌%◌, ◌^◌, ◌≤◌, take, refl, arith}
use Rattle.std.specs.Int.{byte_at, bytes_high_first}

pub last_bytes : (size n : ℕ) → size ≤ 8 → take size (bytes_high_first 8 (n * 2 ^ ((64 - 8 * size) % 64) % 2 ^ 64)) ≡ bytes_high_first size n
last_bytes zero n h = refl
last_bytes (suc zero) n h =
    let m : ℕ = n * 2 ^ 56 % 2 ^ 64 in
    let a : byte_at 7 m ≡ byte_at 0 n = omega arith in
    rw a
last_bytes (suc (suc zero)) n h =
    let m : ℕ = n * 2 ^ 48 % 2 ^ 64 in
    let a : byte_at 7 m ≡ byte_at 1 n = omega arith in
    let b : byte_at 6 m ≡ byte_at 0 n = omega arith in
    rw (a, b)
last_bytes (suc (suc (suc zero))) n h =
    let m : ℕ = n * 2 ^ 40 % 2 ^ 64 in
    let a : byte_at 7 m ≡ byte_at 2 n = omega arith in
    let b : byte_at 6 m ≡ byte_at 1 n = omega arith in
    let c : byte_at 5 m ≡ byte_at 0 n = omega arith in
    rw (a, b, c)
last_bytes (suc (suc (suc (suc zero)))) n h =
    let m : ℕ = n * 2 ^ 32 % 2 ^ 64 in
    let a : byte_at 7 m ≡ byte_at 3 n = omega arith in
    let b : byte_at 6 m ≡ byte_at 2 n = omega arith in
    let c : byte_at 5 m ≡ byte_at 1 n = omega arith in
    let d : byte_at 4 m ≡ byte_at 0 n = omega arith in
    rw (a, b, c, d)
last_bytes (suc (suc (suc (suc (suc zero))))) n h =
    let m : ℕ = n * 2 ^ 24 % 2 ^ 64 in
    let a : byte_at 7 m ≡ byte_at 4 n = omega arith in
    let b : byte_at 6 m ≡ byte_at 3 n = omega arith in
    let c : byte_at 5 m ≡ byte_at 2 n = omega arith in
    let d : byte_at 4 m ≡ byte_at 1 n = omega arith in
    let e : byte_at 3 m ≡ byte_at 0 n = omega arith in
    rw (a, b, c, d, e)
last_bytes (suc (suc (suc (suc (suc (suc zero)))))) n h =
    let m : ℕ = n * 2 ^ 16 % 2 ^ 64 in
    let a : byte_at 7 m ≡ byte_at 5 n = omega arith in
    let b : byte_at 6 m ≡ byte_at 4 n = omega arith in
    let c : byte_at 5 m ≡ byte_at 3 n = omega arith in
    let d : byte_at 4 m ≡ byte_at 2 n = omega arith in
    let e : byte_at 3 m ≡ byte_at 1 n = omega arith in
    let f : byte_at 2 m ≡ byte_at 0 n = omega arith in
    rw (a, b, c, d, e, f)
last_bytes (suc (suc (suc (suc (suc (suc (suc zero))))))) n h =
    let m : ℕ = n * 2 ^ 8 % 2 ^ 64 in
    let a : byte_at 7 m ≡ byte_at 6 n = omega arith in
    let b : byte_at 6 m ≡ byte_at 5 n = omega arith in
    let c : byte_at 5 m ≡ byte_at 4 n = omega arith in
    let d : byte_at 4 m ≡ byte_at 3 n = omega arith in
    let e : byte_at 3 m ≡ byte_at 2 n = omega arith in
    let f : byte_at 2 m ≡ byte_at 1 n = omega arith in
    let g : byte_at 1 m ≡ byte_at 0 n = omega arith in
    rw (a, b, c, d, e, f, g)
last_bytes (suc (suc (suc (suc (suc (suc (suc (suc zero)))))))) n h =
    let m : ℕ = n * 2 ^ 0 % 2 ^ 64 in
    let a : byte_at 7 m ≡ byte_at 7 n = omega arith in
    let b : byte_at 6 m ≡ byte_at 6 n = omega arith in
    let c : byte_at 5 m ≡ byte_at 5 n = omega arith in
    let d : byte_at 4 m ≡ byte_at 4 n = omega arith in
    let e : byte_at 3 m ≡ byte_at 3 n = omega arith in
    let f : byte_at 2 m ≡ byte_at 2 n = omega arith in
    let g : byte_at 1 m ≡ byte_at 1 n = omega arith in
    let i : byte_at 0 m ≡ byte_at 0 n = omega arith in
    rw (a, b, c, d, e, f, g, i)
last_bytes (suc (suc (suc (suc (suc (suc (suc (suc (suc n′))))))))) n h = absurd (let no : ⊥ = omega (arith, h) in no)
