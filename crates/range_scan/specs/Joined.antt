-- Parts of ranges that follow one another, as one (Ge et al. 2019).
use Rattle.std.specs.Prelude.{◌≡◌, ℕ, ◌+◌, Bool, cond, List, ◌++◌}
use Rattle.quote_automaton.specs.declared.state.State.{State}
use Rattle.value_types.specs.Datum.{Datum}
use Rattle.reject_book.specs.declared.reject.Reject.{Reject}
use Rattle.reject_book.specs.Kept.{book_of, joined as books_joined}
use Rattle.range_guess.specs.Rescans.{is_again}
use Rattle.range_scan.specs.declared.context.Context.{Context}
use Rattle.range_scan.specs.declared.joined.Joined.{Joined}
use Rattle.range_scan.specs.Part.{Part, no_part}
use Rattle.range_scan.specs.Scanned.{Scanned}

-- what is joined is a part of a file
pub record IsJoinedPart (context : Context) (part : Part (List Datum) Reject) (joined : Joined) : Type 0 where
  pub end : joined.end ≡ part.end
  pub types : joined.table.types ≡ context.schema.types
  pub rows : joined.table.rows ≡ part.cells
  pub book : joined.book ≡ book_of context.keep part.faults
  pub line_ends : joined.line_ends ≡ part.line_ends

-- nothing is joined, and the first range opens in this state
pub record IsBegun (context : Context) (first : State) (joined : Joined) : Type 0 where
  pub part : IsJoinedPart context (no_part first) joined
  pub rescans : joined.rescans ≡ 0
  pub rescanned : joined.rescanned ≡ 0

-- one range of so many bytes, counted where its guess was wrong
pub record IsOfRange (part : Scanned) (wrong : Bool) (bytes : ℕ) (joined : Joined) : Type 0 where
  pub end : joined.end ≡ part.end
  pub types : joined.table.types ≡ part.types
  pub rows : joined.table.rows ≡ part.rows
  pub book : joined.book ≡ part.book
  pub line_ends : joined.line_ends ≡ part.line_ends
  pub rescans : joined.rescans ≡ cond wrong 1 0
  pub rescanned : joined.rescanned ≡ cond wrong bytes 0

-- what the next ranges come to is appended
pub record IsAppended (next old new : Joined) : Type 0 where
  pub end : new.end ≡ next.end
  pub types : new.table.types ≡ old.table.types
  pub rows : new.table.rows ≡ old.table.rows ++ next.table.rows
  pub book : new.book ≡ books_joined old.line_ends old.book next.book
  pub line_ends : new.line_ends ≡ old.line_ends + next.line_ends
  pub rescans : new.rescans ≡ old.rescans + next.rescans
  pub rescanned : new.rescanned ≡ old.rescanned + next.rescanned

-- the next range, of so many bytes, is joined by its part, and counted where it was read from another state first than the one in which it opens
pub record AddsRange (part : Scanned) (first : State) (bytes : ℕ) (old new : Joined) : Type 0 where
  pub next : Joined
  pub of : IsOfRange part (is_again first old.end) bytes next
  pub adds : IsAppended next old new
