-- What is seen of a text under way.
use Rattle.std.specs.Prelude.{ℕ, List}

-- the text, and how many bytes find room behind it
pub record DraftView : Type 0 where
  pub text : List ℕ
  pub room : ℕ
