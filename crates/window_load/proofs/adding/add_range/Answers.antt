use Rattle.std.proofs.Common.{◌≡◌, ◌⊎◌, inl, inr, true, length, sym, ◌∙◌, ap}
use Rattle.std.specs.Prelude.{is_some, slice_range}
use Rattle.quote_automaton.specs.Automaton.{state_after}
use Rattle.quote_automaton.specs.Rows.{first_row_start}
use Rattle.range_scan.specs.Scanned.{Scanned}
use Rattle.window_load.specs.Ranges.{begins_behind}
use Rattle.window_load.proofs.adding.add_range.Goals.{else-not-sure-via-then-not-sure+else-not-has_row_behind, else-not-sure-via-else-not-sure}
use Rattle.window_load.proofs.adding.add_range.Goals as goal

pub returns-clause-value : goal.returns-clause-value
returns-clause-value g c = λ told.
    let d = c.args.scanner.now.context.now.dialect in
    let kept = c.args.window.now.kept in
    let span = c.args.span.now in
    elim c.else-not-sure.branch as (λ _. (c.args.sure ≡ true) ⊎ (begins_behind d kept span c.args.joined.now.end ≡ true)) [
      | else-not-sure-via-then-not-sure+else-not-has_row_behind w ↦ (let end : w.end.result ≡ state_after d c.args.joined.now.end (slice_range kept span.from span.to) =
          w.end.ensures ∙ ap (λ (p : Scanned). p.end) c.in_ok-part.ensures ∙ ap (λ bs. state_after d c.args.joined.now.end (slice_range bs span.from span.to)) c.bytes.ensures in
          inr (ap (λ e. is_some (first_row_start d e kept span.to (length kept))) (sym end) ∙ sym w.has_row_behind.ensures ∙ w.if-not-has_row_behind.false))
      | else-not-sure-via-else-not-sure w ↦ inl w.if-not-sure.false
    ]
