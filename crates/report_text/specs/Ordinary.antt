-- Bytes that stand for themselves where they are shown (this loader's profile).
use Rattle.std.specs.Prelude.{ℕ, ◌==◌, ◌||◌, nat_lt, not, Bool}
use Rattle.std.specs.Str.{byte}

-- a backslash, a bar, and a byte that can't be seen
abbrev pub is_spelled : ℕ → Bool
is_spelled b = ((b == byte "\\" || b == byte "|") || b == 127) || nat_lt b 32

abbrev pub is_ordinary : ℕ → Bool
is_ordinary b = not (is_spelled b)
