-- Bytes whose state is known by counting quotes.
use Rattle.std.specs.Prelude.{◌≡◌, ◌==◌, ℕ, zero, suc, ◌<◌, Bool, true, false, not, ◌&&◌, ◌||◌, List, ◌∷◌, slice_index, if◌then◌else◌}
use Rattle.std.specs.Int.{bit_at}
use Rattle.byte_classes.specs.declared.class.Class.{Class}
use Rattle.byte_classes.specs.declared.class.Class.TheVariants as class
use Rattle.byte_classes.specs.Class.{class_of}
use Rattle.byte_classes.specs.Dialect.{Marks, is_byte}
use Rattle.quote_automaton.specs.declared.place.Place.{Place}
use Rattle.quote_automaton.specs.declared.state.State.{State}
use Rattle.quote_automaton.specs.declared.state.State.TheVariants.{RowStart, FieldStart, Plain, Quoted, QuoteSeen, CrSeen}
use Rattle.quote_automaton.specs.Automaton.{state_after, state_at}
use Rattle.quote_automaton.specs.Rows.{is_row_start}

-- the state behind a byte of this class, between quotes or not, where no quote is out of its place
abbrev pub counted : Bool → Class → State
counted true c = Quoted
counted false class.Lf = RowStart
counted false class.Cr = CrSeen
counted false class.Delim = FieldStart
counted false class.Quote = QuoteSeen
counted false class.Escape = Plain
counted false class.Comment = Plain
counted false class.Other = Plain

-- the state at a place
abbrev pub state_of : Marks → Place → State
state_of d place = counted place.inside (class_of d place.last)

-- whether the next byte stands between quotes, behind a quote or another byte
abbrev pub toggled : Bool → Bool → Bool
toggled inside quote = if quote then not inside else inside

-- whether a byte outside quotes is out of its place: it begins a comment, or it follows a closing quote and is neither a quote nor a
-- separator, or it is a quote and follows neither a quote nor a separator
abbrev pub is_misplaced : Bool → Bool → Bool → Bool → Bool → Bool → Bool
is_misplaced inside comment behind_quote behind_end quote end =
    not inside && (comment || ((behind_quote && not (end || quote)) || (quote && not (behind_quote || behind_end))))

-- the bit for a place of a mask
abbrev pub is_set : ℕ → ℕ → Bool
is_set mask i = bit_at mask i == 1

-- the bit for the place before, or for the first place a given one
abbrev pub bit_behind : Bool → ℕ → ℕ → ℕ
bit_behind first mask zero = if first then 1 else 0
bit_behind first mask (suc i) = bit_at mask i

-- whether a row begins at a byte behind another, unless a comment does: behind a line end outside quotes, but not at the LF of a CR LF pair
abbrev pub begins_counted : Bool → Bool → Bool → Bool → Bool
begins_counted inside behind_end lf behind_cr = behind_end && not (inside || (lf && behind_cr))

-- what counting tells of a block that begins at a place: which of its bytes stand between quotes, and what is known behind it. With the byte
-- before each it gives the state in which a byte is read, and no comment begins
pub record IsCounted (d : Marks) (place : Place) (block : List ℕ) (inside : ℕ) (next : Place) : Type 0 where
  pub state : (i : ℕ) → i < 64 → state_at d (state_of d place) block i ≡ counted (is_set inside i) (class_of d (slice_index (place.last ∷ block) i))
  pub bare : (i : ℕ) → i < 64 → (not (is_set inside i) && is_byte d.comment (slice_index block i)) ≡ false
  pub behind : state_after d (state_of d place) block ≡ state_of d next

-- the mask tells at which bytes of a block a row begins
abbrev pub HasRowStarts : Marks → State → List ℕ → ℕ → Type 0
HasRowStarts d s block mask = (i : ℕ) → i < 64 → bit_at mask i ≡ (if is_row_start d s block i then 1 else 0)
