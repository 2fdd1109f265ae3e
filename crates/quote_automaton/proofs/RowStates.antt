-- A byte of a row ends it, or is another one of it.
use Rattle.std.proofs.Common.{◌≡◌, true, false, cond, refl}
use Rattle.std.specs.Prelude.{MatchBool, ⊤}
use Rattle.byte_classes.specs.declared.class.Class.{Class}
use Rattle.byte_classes.specs.declared.class.Class.TheVariants as class
use Rattle.byte_classes.specs.Dialect.{Marks}
use Rattle.quote_automaton.specs.declared.state.State.{State}
use Rattle.quote_automaton.specs.declared.state.State.TheVariants.{RowStart, FieldStart, Plain, Quoted, Escape, QuoteSeen, Broken, CrSeen, Comment}
use Rattle.quote_automaton.specs.Automaton.{next, doubles_quotes}
use Rattle.quote_automaton.specs.Rows.{begins_row, ends_row}

-- a state between the first byte of a row and its end, or of a comment line
abbrev pub IsInRow : State → Type 0
IsInRow RowStart = ⊥
IsInRow CrSeen = ⊥
IsInRow Comment = ⊤
IsInRow FieldStart = ⊤
IsInRow Plain = ⊤
IsInRow Quoted = ⊤
IsInRow Escape = ⊤
IsInRow QuoteSeen = ⊤
IsInRow Broken = ⊤

-- the state behind a line end
abbrev pub IsBehind : Class → State → Type 0
IsBehind class.Lf t = t ≡ RowStart
IsBehind class.Cr t = t ≡ CrSeen
IsBehind class.Delim t = ⊥
IsBehind class.Quote t = ⊥
IsBehind class.Escape t = ⊥
IsBehind class.Comment t = ⊥
IsBehind class.Other t = ⊥

pub none_begins : (s : State) (c : Class) → IsInRow s → begins_row s c ≡ false
none_begins RowStart c inside = absurd inside
none_begins CrSeen c inside = absurd inside
none_begins Comment c inside = refl
none_begins FieldStart c inside = refl
none_begins Plain c inside = refl
none_begins Quoted c inside = refl
none_begins Escape c inside = refl
none_begins QuoteSeen c inside = refl
none_begins Broken c inside = refl

-- a byte ends the row, or is another one of it
abbrev pub EndsOrStays : Marks → State → Class → Type 0
EndsOrStays d s c = MatchBool (ends_row s c) (IsBehind c (next d s c)) (IsInRow (next d s c))

pub ends_or_stays : (d : Marks) (s : State) (c : Class) → IsInRow s → EndsOrStays d s c
ends_or_stays d RowStart c inside = absurd inside
ends_or_stays d CrSeen c inside = absurd inside
ends_or_stays d Comment class.Lf inside = refl
ends_or_stays d Comment class.Cr inside = refl
ends_or_stays d Comment class.Delim inside = tt
ends_or_stays d Comment class.Quote inside = tt
ends_or_stays d Comment class.Escape inside = tt
ends_or_stays d Comment class.Comment inside = tt
ends_or_stays d Comment class.Other inside = tt
ends_or_stays d FieldStart class.Lf inside = refl
ends_or_stays d FieldStart class.Cr inside = refl
ends_or_stays d FieldStart class.Delim inside = tt
ends_or_stays d FieldStart class.Quote inside = tt
ends_or_stays d FieldStart class.Escape inside = tt
ends_or_stays d FieldStart class.Comment inside = tt
ends_or_stays d FieldStart class.Other inside = tt
ends_or_stays d Plain class.Lf inside = refl
ends_or_stays d Plain class.Cr inside = refl
ends_or_stays d Plain class.Delim inside = tt
ends_or_stays d Plain class.Quote inside = tt
ends_or_stays d Plain class.Escape inside = tt
ends_or_stays d Plain class.Comment inside = tt
ends_or_stays d Plain class.Other inside = tt
ends_or_stays d Quoted class.Lf inside = tt
ends_or_stays d Quoted class.Cr inside = tt
ends_or_stays d Quoted class.Delim inside = tt
ends_or_stays d Quoted class.Quote inside = tt
ends_or_stays d Quoted class.Escape inside = tt
ends_or_stays d Quoted class.Comment inside = tt
ends_or_stays d Quoted class.Other inside = tt
ends_or_stays d Escape class.Lf inside = tt
ends_or_stays d Escape class.Cr inside = tt
ends_or_stays d Escape class.Delim inside = tt
ends_or_stays d Escape class.Quote inside = tt
ends_or_stays d Escape class.Escape inside = tt
ends_or_stays d Escape class.Comment inside = tt
ends_or_stays d Escape class.Other inside = tt
ends_or_stays d QuoteSeen class.Lf inside = refl
ends_or_stays d QuoteSeen class.Cr inside = refl
ends_or_stays d QuoteSeen class.Delim inside = tt
ends_or_stays d QuoteSeen class.Quote inside = elim (doubles_quotes d) as (λ b. IsInRow (cond b Quoted Broken)) [ true ↦ tt | false ↦ tt ]
ends_or_stays d QuoteSeen class.Escape inside = tt
ends_or_stays d QuoteSeen class.Comment inside = tt
ends_or_stays d QuoteSeen class.Other inside = tt
ends_or_stays d Broken class.Lf inside = refl
ends_or_stays d Broken class.Cr inside = refl
ends_or_stays d Broken class.Delim inside = tt
ends_or_stays d Broken class.Quote inside = tt
ends_or_stays d Broken class.Escape inside = tt
ends_or_stays d Broken class.Comment inside = tt
ends_or_stays d Broken class.Other inside = tt

-- the first byte of a row ends it, or is one of it
pub starts_or_ends : (d : Marks) (c : Class) → EndsOrStays d RowStart c
starts_or_ends d class.Lf = refl
starts_or_ends d class.Cr = refl
starts_or_ends d class.Delim = tt
starts_or_ends d class.Quote = tt
starts_or_ends d class.Escape = tt
starts_or_ends d class.Comment = tt
starts_or_ends d class.Other = tt
