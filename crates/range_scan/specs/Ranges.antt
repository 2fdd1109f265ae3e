-- The first ranges of some data, joined one after another, each in its true state (Ge et al. 2019).
use Rattle.std.specs.Prelude.{◌≡◌, ℕ, ◌-◌, ◌*◌, min, sum_by, List, length}
use Rattle.quote_automaton.specs.declared.state.State.{State}
use Rattle.quote_automaton.specs.declared.state.State.TheVariants.{RowStart}
use Rattle.value_types.specs.Datum.{Datum}
use Rattle.range_guess.specs.declared.span.Span.{Span}
use Rattle.range_guess.specs.Rescans.{range_bytes, first_rescanned}
use Rattle.reject_book.specs.declared.reject.Reject.{Reject}
use Rattle.range_scan.specs.declared.context.Context.{Context}
use Rattle.range_scan.specs.declared.joined.Joined.{Joined}
use Rattle.range_scan.specs.Joined.{IsJoinedPart, AddsRange}
use Rattle.range_scan.specs.Part.{Part, part_of}
use Rattle.range_scan.specs.Scanned.{judge_in, scanned}

-- a range of a window is joined as it is scanned from the end of those before it
abbrev pub AddsSpan : Context → List ℕ → ℕ → Span → State → Joined → Joined → Type 0
AddsSpan context bytes base span first old new = AddsRange (scanned context bytes base span old.end) first (span.to - span.from) old new

-- where the first k ranges of some data end, and their part
abbrev pub ranges_end : List ℕ → ℕ → ℕ → ℕ
ranges_end text range_size k = min (k * range_size) (length text)

abbrev pub ranges_part : Context → List ℕ → ℕ → ℕ → ℕ → Part (List Datum) Reject
ranges_part context text start range_size k = part_of (judge_in context) context.dialect text start 0 (ranges_end text range_size k) RowStart

-- the first k ranges of some data, which begin at a place of the input, are joined, and those that are read again are counted
pub record IsJoinedTo (context : Context) (text : List ℕ) (start range_size k : ℕ) (joined : Joined) : Type 0 where
  pub part : IsJoinedPart context (ranges_part context text start range_size k) joined
  pub rescans : joined.rescans ≡ length (first_rescanned context.dialect text range_size k)
  pub rescanned : joined.rescanned ≡ sum_by (λ i. length (range_bytes text range_size i)) (first_rescanned context.dialect text range_size k)
