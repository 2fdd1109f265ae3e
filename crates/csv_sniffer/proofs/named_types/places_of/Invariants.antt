use Rattle.std.proofs.Common.{◌≡◌, ℕ, List, Bor, drop}
use Rattle.std.specs.List.{position_from}
use Rattle.std.specs.Map.{lookup}
use Rattle.std.specs.Str.{bytes_eq}
use Rattle.csv_sniffer.proofs.named_types.places_of.Given as goal

-- the places of the names that are passed, which are the last ones
abbrev pub invariant-loop-place : goal.invariant-loop-place
invariant-loop-place l = (key : Bor (List ℕ)) → lookup (λ (other : Bor (List ℕ)). bytes_eq key.now other.now) l.places.entries ≡ position_from (bytes_eq key.now) l.place (drop l.place l.names)
