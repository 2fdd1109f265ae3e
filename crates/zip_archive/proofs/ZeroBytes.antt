-- Zero bytes that go into a register, and what that does to sums of registers: it keeps them.
use Rattle.std.proofs.Common.{◌≡◌, ℕ, zero, suc, ◌+◌, ◌*◌, ◌/◌, ◌%◌, ◌^◌, ◌<◌, ◌==◌, List, [], ◌∷◌, length, get_or, drop, drop-cons, refl, ap, sym, ◌∙◌, arith, if◌then◌else◌}
use Rattle.std.specs.Int.Bits.{bit_xor, xor_assoc, xor_self, xor_zero_r}
use Rattle.std.proofs.lemmas.Nat.{xor_comm, xor_mod, xor_shr, xor_block}
use Rattle.std.specs.Int.{w64, byte_at, from_le_bytes}
use Rattle.std.proofs.lemmas.List.{drop_all}
use Rattle.std.proofs.Math.Nat.{pow-suc, mul_assoc}
use Rattle.zip_archive.specs.Reading.{number_of}
use Rattle.zip_archive.specs.Crc.{bit_step, bit_steps, byte_step, crc_after, zeros}

-- two sums of two are the sum of two other ones
pub xor-cross : (a b c d : ℕ) → bit_xor (bit_xor a b) (bit_xor c d) ≡ bit_xor (bit_xor a c) (bit_xor b d)
xor-cross a b c d =
    xor_assoc a b (bit_xor c d)
    ∙ ap (bit_xor a) (sym (xor_assoc b c d) ∙ ap (λ (z : ℕ). bit_xor z d) (xor_comm b c) ∙ xor_assoc c b d)
    ∙ sym (xor_assoc a c (bit_xor b d))

-- what is left of a register whose lowest bit was this
abbrev left : ℕ → ℕ → ℕ
left bit r = if bit == 1 then bit_xor r 0xEDB88320 else r

left-xor : (p q h k : ℕ) → p < 2 → q < 2 → left (bit_xor p q) (bit_xor h k) ≡ bit_xor (left p h) (left q k)
left-xor zero zero h k p q = refl
left-xor zero (suc zero) h k p q = xor_assoc h k 0xEDB88320
left-xor (suc zero) zero h k p q = xor_assoc h k 0xEDB88320 ∙ ap (bit_xor h) (xor_comm k 0xEDB88320) ∙ sym (xor_assoc h 0xEDB88320 k)
left-xor (suc zero) (suc zero) h k p q = sym (xor-cross h 0xEDB88320 k 0xEDB88320 ∙ ap (bit_xor (bit_xor h k)) (xor_self 0xEDB88320) ∙ xor_zero_r (bit_xor h k))
left-xor zero (suc (suc q)) h k lp lq = absurd (omega arith)
left-xor (suc zero) (suc (suc q)) h k lp lq = absurd (omega arith)
left-xor (suc (suc p)) q h k lp lq = absurd (omega arith)

pub bit_step-xor : (a b : ℕ) → bit_step (bit_xor a b) ≡ bit_xor (bit_step a) (bit_step b)
unfolding bit_step
bit_step-xor a b =
    ap (λ (z : ℕ). left z (bit_xor a b / 2)) (xor_mod a b 1)
    ∙ ap (left (bit_xor (a % 2) (b % 2))) (xor_shr a b 1)
    ∙ left-xor (a % 2) (b % 2) (a / 2) (b / 2) (omega arith) (omega arith)

pub bit_steps-xor : (k a b : ℕ) → bit_steps k (bit_xor a b) ≡ bit_xor (bit_steps k a) (bit_steps k b)
bit_steps-xor zero a b = refl
bit_steps-xor (suc k) a b = ap (bit_steps k) (bit_step-xor a b) ∙ bit_steps-xor k (bit_step a) (bit_step b)

-- an even register is halved
bit_step-even : (h : ℕ) → bit_step (h * 2) ≡ h
unfolding bit_step
bit_step-even h =
    let even : h * 2 % 2 ≡ 0 = omega arith in
    let halved : h * 2 / 2 ≡ h = omega arith in
    ap (λ (z : ℕ). left z (h * 2 / 2)) even ∙ halved

bit_steps-shifted : (k h : ℕ) → bit_steps k (h * 2 ^ k) ≡ h
bit_steps-shifted zero h = omega arith
bit_steps-shifted (suc k) h =
    let power : 2 ^ suc k ≡ 2 ^ k * 2 = omega (arith, pow-suc 2 k) in
    let even : h * 2 ^ suc k ≡ h * 2 ^ k * 2 = ap (λ (z : ℕ). h * z) power ∙ sym (mul_assoc h (2 ^ k) 2) in
    ap (λ (z : ℕ). bit_steps k (bit_step z)) even ∙ ap (bit_steps k) (bit_step-even (h * 2 ^ k)) ∙ bit_steps-shifted k h

pub zeros-xor : (k a b : ℕ) → zeros k (bit_xor a b) ≡ bit_xor (zeros k a) (zeros k b)
unfolding zeros
zeros-xor zero a b = refl
zeros-xor (suc k) a b = ap (zeros k) (bit_steps-xor 8 a b) ∙ zeros-xor k (bit_steps 8 a) (bit_steps 8 b)

-- a byte and what stands above it
pub low-xor-high : (b n : ℕ) → b < 256 → b + n * 256 ≡ bit_xor b (n * 256)
low-xor-high b n lt =
    let low : b ≡ 0 * 256 + b = omega arith in
    let high : n * 256 ≡ n * 256 + 0 = omega arith in
    let both : b + n * 256 ≡ bit_xor 0 n * 256 + bit_xor b 0 = omega (arith, xor_zero_r b) in
    both ∙ sym (xor_block 8 0 n b 0 (omega arith) (omega arith)) ∙ sym (ap (λ (z : ℕ). bit_xor z (n * 256)) low ∙ ap (bit_xor (0 * 256 + b)) high)

-- the lowest byte and the others go through by themselves, and the others come down by one
pub zeros-cut : (k r : ℕ) → zeros (suc k) r ≡ bit_xor (zeros (suc k) (r % 256)) (zeros k (r / 256))
unfolding zeros
zeros-cut k r =
    let whole : r ≡ r % 256 + r / 256 * 256 = omega arith in
    ap (zeros (suc k)) (whole ∙ low-xor-high (r % 256) (r / 256) (omega arith))
    ∙ zeros-xor (suc k) (r % 256) (r / 256 * 256)
    ∙ ap (λ (z : ℕ). bit_xor (zeros (suc k) (r % 256)) (zeros k z)) (bit_steps-shifted 8 (r / 256))

-- a byte goes in, and what stands above it comes down
one_in : (r b n : ℕ) → b < 256 → bit_steps 8 (bit_xor r (b + n * 256)) ≡ bit_xor (byte_step r b) n
unfolding byte_step
one_in r b n lt =
    ap (λ (z : ℕ). bit_steps 8 (bit_xor r z)) (low-xor-high b n lt)
    ∙ ap (bit_steps 8) (sym (xor_assoc r b (n * 256)))
    ∙ bit_steps-xor 8 (bit_xor r b) (n * 256)
    ∙ ap (bit_xor (bit_steps 8 (bit_xor r b))) (bit_steps-shifted 8 n)

-- the bytes may all go in at once, and zeros after them
pub crc_after-number : (r : ℕ) (bytes : List ℕ) → ((i : ℕ) → get_or bytes i 0 < 256) → crc_after r bytes ≡ zeros (length bytes) (bit_xor r (number_of bytes))
unfolding zeros
crc_after-number r [] below = sym (xor_zero_r r)
crc_after-number r (b ∷ bs) below =
    crc_after-number (byte_step r b) bs (λ i. below (suc i))
    ∙ ap (zeros (length bs)) (sym (one_in r b (number_of bs) (below 0)))

-- the next byte of a number
number-drop : (bytes : List ℕ) (i : ℕ) → i < length bytes → number_of (drop i bytes) ≡ get_or bytes i 0 + number_of (drop (suc i) bytes) * 256
number-drop bytes i lt = rw (drop-cons bytes i 0)

-- eight bytes may go in at once
pub crc_after-eight : (r : ℕ) (bytes : List ℕ) → length bytes ≡ 8 → ((i : ℕ) → get_or bytes i 0 < 256) → crc_after r bytes ≡ zeros 8 (bit_xor r (from_le_bytes w64 bytes))
crc_after-eight r bytes eight below =
    let none : number_of (drop 8 bytes) ≡ 0 = ap number_of (drop_all 8 bytes (omega arith)) in
    let whole : number_of bytes ≡ from_le_bytes w64 bytes =
    omega (
      arith,
      number-drop bytes 0 (omega arith),
      number-drop bytes 1 (omega arith),
      number-drop bytes 2 (omega arith),
      number-drop bytes 3 (omega arith),
      number-drop bytes 4 (omega arith),
      number-drop bytes 5 (omega arith),
      number-drop bytes 6 (omega arith),
      number-drop bytes 7 (omega arith),
    ) in
    crc_after-number r bytes below ∙ ap (λ (k : ℕ). zeros k (bit_xor r (number_of bytes))) eight ∙ ap (λ (n : ℕ). zeros 8 (bit_xor r n)) whole

-- the byte at a place and those above it
cut_at : (k x low high : ℕ) → x / low / 256 ≡ x / high → zeros (suc k) (x / low) ≡ bit_xor (zeros (suc k) (x / low % 256)) (zeros k (x / high))
cut_at k x low high above = zeros-cut k (x / low) ∙ ap (λ (z : ℕ). bit_xor (zeros (suc k) (x / low % 256)) (zeros k z)) above

regroup : (a b c d e f g h : ℕ) → bit_xor a (bit_xor b (bit_xor c (bit_xor d (bit_xor e (bit_xor f (bit_xor g (bit_xor h 0))))))) ≡ bit_xor (bit_xor (bit_xor (bit_xor (bit_xor (bit_xor (bit_xor a b) c) d) e) f) g) h
regroup a b c d e f g h = simp (xor_assoc, xor_zero_r)

-- the registers behind each of the bytes, and zeros in place of those above it
abbrev pub apart : ℕ → ℕ
apart x =
    bit_xor (bit_xor (bit_xor (bit_xor (bit_xor (bit_xor (bit_xor
    (zeros 8 (byte_at 0 x)) (zeros 7 (byte_at 1 x))) (zeros 6 (byte_at 2 x))) (zeros 5 (byte_at 3 x)))
    (zeros 4 (byte_at 4 x))) (zeros 3 (byte_at 5 x))) (zeros 2 (byte_at 6 x))) (zeros 1 (byte_at 7 x))

-- a byte in front, and what is left behind it
with_byte : (k x i y z : ℕ) → y ≡ z → bit_xor (zeros k (byte_at i x)) y ≡ bit_xor (zeros k (byte_at i x)) z
with_byte k x i y z e = ap (bit_xor (zeros k (byte_at i x))) e

none_above : (x : ℕ) → x < 2 ^ 64 → zeros 0 (x / 256 ^ 8) ≡ 0
unfolding zeros
none_above x lt = omega arith

-- the eight bytes of a number go in at once where each goes in by itself
pub zeros-apart : (x : ℕ) → x < 2 ^ 64 → zeros 8 x ≡ apart x
zeros-apart x lt =
    zeros-cut 7 x
    ∙ with_byte 8 x 0 _ _ (cut_at 6 x (256 ^ 1) (256 ^ 2) (omega arith)
    ∙ with_byte 7 x 1 _ _ (cut_at 5 x (256 ^ 2) (256 ^ 3) (omega arith)
    ∙ with_byte 6 x 2 _ _ (cut_at 4 x (256 ^ 3) (256 ^ 4) (omega arith)
    ∙ with_byte 5 x 3 _ _ (cut_at 3 x (256 ^ 4) (256 ^ 5) (omega arith)
    ∙ with_byte 4 x 4 _ _ (cut_at 2 x (256 ^ 5) (256 ^ 6) (omega arith)
    ∙ with_byte 3 x 5 _ _ (cut_at 1 x (256 ^ 6) (256 ^ 7) (omega arith)
    ∙ with_byte 2 x 6 _ _ (cut_at 0 x (256 ^ 7) (256 ^ 8) (omega arith)
    ∙ with_byte 1 x 7 _ _ (none_above x lt))))))))
    ∙ regroup (zeros 8 (byte_at 0 x)) (zeros 7 (byte_at 1 x)) (zeros 6 (byte_at 2 x)) (zeros 5 (byte_at 3 x))
    (zeros 4 (byte_at 4 x)) (zeros 3 (byte_at 5 x)) (zeros 2 (byte_at 6 x)) (zeros 1 (byte_at 7 x))

-- a byte goes in: the lowest byte goes through, and those above it come down
pub byte_step-cut : (r b : ℕ) → byte_step r b ≡ bit_xor (zeros 1 (bit_xor r b % 256)) (bit_xor r b / 256)
unfolding byte_step zeros
byte_step-cut r b = zeros-cut 0 (bit_xor r b)
