-- Where a file may be cut, and which rows count (this loader's profile, over the rows of RFC 4180 section 2).
use Rattle.std.specs.Prelude.{ℕ, ◌+◌, ◌*◌, ◌/◌, Bool, false, not, ◌&&◌, ◌||◌, ◌==◌, nat_eq, List, [], ◌∷◌}
use Rattle.std.specs.List.{starts_with}
use Rattle.byte_classes.specs.ByteOrderMark.{byte_order_mark}
use Rattle.byte_classes.specs.declared.class.Class.{Class}
use Rattle.byte_classes.specs.Class.{class_of, is_line_end}
use Rattle.byte_classes.specs.Dialect.{Marks}
use Rattle.quote_automaton.specs.declared.state.State.{State}
use Rattle.quote_automaton.specs.Rows.{begins_row}

-- whether a row of at least one byte begins at a byte of this class that is read in this state
abbrev pub begins_filled : State → Class → Bool
begins_filled s c = begins_row s c && not (is_line_end c)

-- whether a row that counts begins there: where there are several columns a blank row, of no bytes, doesn't count
abbrev pub counts_row : ℕ → State → Class → Bool
counts_row columns s c = begins_row s c && (not (is_line_end c) || columns == 1)

-- whether the bytes, whose first one is read in this state, may begin a part: a row of at least one byte begins there, and they don't begin
-- with a byte order mark, over which a load would pass
abbrev pub is_cut : Marks → State → List ℕ → Bool
is_cut d s [] = false
is_cut d s (b ∷ bytes) = begins_filled s (class_of d b) && not (starts_with nat_eq (b ∷ bytes) byte_order_mark)

-- the least multiple of a size behind a place
abbrev pub multiple_behind : ℕ → ℕ → ℕ
multiple_behind size place = (place / size + 1) * size
