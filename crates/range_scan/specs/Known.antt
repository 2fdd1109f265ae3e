-- What is known of a span's bytes before its rows are read.
use Rattle.std.specs.Prelude.{ℕ, List}
use Rattle.range_scan.specs.declared.context.Context.{Context}
use Rattle.range_scan.specs.declared.known.Known.{Known}
use Rattle.range_scan.specs.FastRows.{IsKindOf}
use Rattle.range_scan.specs.Steps.{IsTextUpTo}

-- what is known of the bytes from a place on
pub record Knows (context : Context) (bytes : List ℕ) (at : ℕ) (known : Known) : Type 0 where
  pub text : IsTextUpTo bytes at known.text_to
  pub rows : IsKindOf context known.rows
