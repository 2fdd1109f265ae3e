-- The mark that may stand before a text (the Unicode Standard, section 23.8).
use Rattle.std.specs.Prelude.{ℕ, List, [], ◌∷◌}

-- the bytes of a byte order mark in UTF-8, which a reader drops at the front of a text
abbrev pub byte_order_mark : List ℕ
byte_order_mark = 0xEF ∷ 0xBB ∷ 0xBF ∷ []
