-- The CRC-32 of a file (APPNOTE.TXT, section 4.4.7), bit by bit.
use Rattle.std.specs.Prelude.{ℕ, zero, suc, ◌/◌, ◌%◌, ◌==◌, List, [], ◌∷◌, bit_xor, if◌then◌else◌}

-- the register once its lowest bit is out: where that bit was set, the polynomial 0xEDB88320 is taken away, the highest power in bit 0
unfoldable pub bit_step : ℕ → ℕ
bit_step r = if r % 2 == 1 then bit_xor (r / 2) 0xEDB88320 else r / 2

-- the register once so many bits are out
abbrev pub bit_steps : ℕ → ℕ → ℕ
bit_steps zero r = r
bit_steps (suc k) r = bit_steps k (bit_step r)

-- the register once so many zero bytes have gone in
unfoldable pub zeros : ℕ → ℕ → ℕ
zeros zero r = r
zeros (suc k) r = zeros k (bit_steps 8 r)

-- the register once a byte has gone in and its eight bits are out
unfoldable pub byte_step : ℕ → ℕ → ℕ
byte_step r b = bit_steps 8 (bit_xor r b)

-- the register behind some bytes
abbrev pub crc_after : ℕ → List ℕ → ℕ
crc_after r [] = r
crc_after r (b ∷ bs) = crc_after (byte_step r b) bs

-- the register before the first byte
abbrev pub crc_start : ℕ
crc_start = 0xFFFFFFFF

-- the CRC that a register tells
abbrev pub crc_told : ℕ → ℕ
crc_told r = bit_xor r 0xFFFFFFFF

abbrev pub crc32 : List ℕ → ℕ
crc32 bytes = crc_told (crc_after crc_start bytes)
