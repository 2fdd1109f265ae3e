-- What is appended is a join of parts.
use Rattle.std.proofs.Common.{◌≡◌, ℕ, ◌+◌, Bool, List, ◌++◌, ap, ◌∙◌}
use Rattle.quote_automaton.specs.declared.state.State.{State}
use Rattle.value_types.specs.Datum.{Datum}
use Rattle.reject_book.specs.declared.reject.Reject.{Reject}
use Rattle.reject_book.specs.Kept.{raised, joined as books_joined}
use Rattle.reject_book.proofs.KeptFronts.{joined_is_book}
use Rattle.range_scan.specs.declared.context.Context.{Context}
use Rattle.range_scan.specs.declared.joined.Joined.{Joined}
use Rattle.range_scan.specs.Joined.{IsJoinedPart, IsOfRange, IsAppended}
use Rattle.range_scan.specs.Part.{Part, join}
use Rattle.range_scan.specs.Scanned.{Scanned, handed_out}

-- one range is its part
pub range_is_part : (context : Context) (number : ℕ) (opened : State) (part : Part (List Datum) Reject) (scan : Scanned) (wrong : Bool) (bytes : ℕ) (joined : Joined) →
    scan ≡ handed_out context number opened part → IsOfRange scan wrong bytes joined → IsJoinedPart context part joined
range_is_part context number opened part scan wrong bytes joined is h = record {
  end = h.end ∙ ap (λ (s : Scanned). s.end) is;
  types = h.types ∙ ap (λ (s : Scanned). s.types) is;
  rows = h.rows ∙ ap (λ (s : Scanned). s.rows) is;
  book = h.book ∙ ap (λ (s : Scanned). s.book) is;
  line_ends = h.line_ends ∙ ap (λ (s : Scanned). s.line_ends) is;
}

-- two parts, the second appended to the first, are their join
pub appended_is_part : (context : Context) (a b : Part (List Datum) Reject) (next old new : Joined) →
    IsJoinedPart context a old → IsJoinedPart context b next → IsAppended next old new → IsJoinedPart context (join raised a b) new
appended_is_part context a b next old new first second is = record {
  end = is.end ∙ second.end;
  types = is.types ∙ first.types;
  rows = is.rows ∙ (λ i. first.rows i ++ second.rows i);
  book = is.book ∙ (λ i. books_joined (first.line_ends i) (first.book i) (second.book i)) ∙ joined_is_book context.keep a.line_ends a.faults b.faults;
  line_ends = is.line_ends ∙ (λ i. first.line_ends i + second.line_ends i);
}
