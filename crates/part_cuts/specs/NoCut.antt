-- Bytes among which there is no cut.
use Rattle.std.specs.Prelude.{◌≡◌, ℕ, false, List, [], ◌∷◌, ◌++◌}
use Rattle.byte_classes.specs.Dialect.{Marks}
use Rattle.quote_automaton.specs.declared.state.State.{State}
use Rattle.quote_automaton.specs.Automaton.{step}
use Rattle.part_cuts.specs.Cut.{is_cut}

-- no cut stands among the bytes, which are read from this state, and behind which others are seen
abbrev pub NoCut : Marks → State → List ℕ → List ℕ → Type 0
NoCut d s [] seen = Unit {0}
NoCut d s (b ∷ bytes) seen = (is_cut d s (b ∷ (bytes ++ seen)) ≡ false) × NoCut d (step d s b) bytes seen
