-- A first line that tells the delimiter to a spreadsheet (this loader's profile).
use Rattle.std.specs.Prelude.{ℕ, ◌+◌, ◌==◌, ◌&&◌, ◌||◌, not, nat_le, nat_lt, Bool, List, length, slice_index}
use Rattle.std.specs.Char.{eq_ignore_ascii_case}
use Rattle.std.specs.Str.{byte}

-- whether a byte ends a line
abbrev pub is_line_end : ℕ → Bool
is_line_end b = (b == 10) || (b == 13)

-- whether a line ends at a place, or all bytes
abbrev pub ends_line_at : List ℕ → ℕ → Bool
ends_line_at bytes at = (at == length bytes) || is_line_end (slice_index bytes at)

-- whether `sep=`, in any ASCII case, stands at a place, and one more ASCII character of its line
abbrev pub has_separator_at : List ℕ → ℕ → Bool
has_separator_at bytes at =
    eq_ignore_ascii_case (slice_index bytes at) (byte "s") && eq_ignore_ascii_case (slice_index bytes (at + 1)) (byte "e")
    && eq_ignore_ascii_case (slice_index bytes (at + 2)) (byte "p") && (slice_index bytes (at + 3) == byte "=")
    && nat_lt (slice_index bytes (at + 4)) 128 && not (is_line_end (slice_index bytes (at + 4)))

-- whether the first line is that
abbrev pub is_separator_line : List ℕ → Bool
is_separator_line bytes = nat_le 5 (length bytes) && has_separator_at bytes 0 && ends_line_at bytes 5

-- the same between two `"`
abbrev pub is_quoted_line : List ℕ → Bool
is_quoted_line bytes =
    nat_le 7 (length bytes) && (slice_index bytes 0 == byte "\"") && has_separator_at bytes 1 && (slice_index bytes 6 == byte "\"")
    && ends_line_at bytes 7

abbrev pub tells_delimiter : List ℕ → Bool
tells_delimiter bytes = is_separator_line bytes || is_quoted_line bytes
