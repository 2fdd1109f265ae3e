use Rattle.std.proofs.Common.{◌≡◌, drop, not}
use Rattle.std.specs.Option.{is_some}
use Rattle.std.specs.List.{find}
use Rattle.csv_sniffer.specs.NamedTypes.{place_of}
use Rattle.csv_sniffer.proofs.named_types.missing_name.Given as goal

-- none so far is missing
abbrev pub invariant-loop-at : goal.invariant-loop-at
invariant-loop-at l = find (λ name. not (is_some (place_of l.names name))) (drop l.at l.given.names) ≡ find (λ name. not (is_some (place_of l.names name))) l.given.names
