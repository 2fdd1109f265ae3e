-- What a step of a writer leaves, by what is still to be written.
use Rattle.std.specs.Prelude.{◌≡◌, ◌<◌, ◌≤◌, ℕ, List, ◌++◌, drop, length}
use Rattle.csv_source.specs.Shown.{shown}

-- the bytes of a text from `at` to before `next` have been shown: with the rest the text is the same as before
pub record HasShown (old new bytes : List ℕ) (at next : ℕ) : Type 0 where
  pub on : at < next
  pub within : next ≤ length bytes
  pub text : new ++ shown (drop next bytes) ≡ old ++ shown (drop at bytes)
