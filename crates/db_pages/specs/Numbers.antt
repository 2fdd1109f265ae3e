-- The numbers of pages (SQLite, "Database File Format", sections 1.3 and 1.4).
use Rattle.std.specs.Prelude.{ℕ, ◌+◌, ◌/◌, ◌%◌, List, [], ◌∷◌, nat_lt, if◌then◌else◌}

-- a number in four bytes, the most significant first
abbrev pub four_bytes : ℕ → List ℕ
four_bytes n = n / 16777216 ∷ n / 65536 % 256 ∷ n / 256 % 256 ∷ n % 256 ∷ []

-- the number of a page by its place, from 0, without the page of the locks
abbrev pub number_of : ℕ → ℕ
number_of place = if nat_lt place 262144 then place + 1 else place + 2
