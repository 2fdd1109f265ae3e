-- What a sink takes of a text that is written part by part.
use Rattle.std.specs.Prelude.{◌≡◌, ◌≤◌, ◌++◌, ℕ, List, Option, Result, OnOk}
use Rattle.std.specs.Io.KnownBytes.{Appends}
use Rattle.csv_source.specs.Causes.{HasCause}
use Rattle.csv_source.specs.Moves.{AppendsFront}

-- a write of a text: all of it where the answer is Ok, and a front of it in any case; a failure has a cause
pub record Writes {T E : Type 0} (before after : Option (List ℕ)) (old new : ℕ) (result : Result T E) (text : List ℕ) : Type 0 where
  pub ok : OnOk result (Appends before after text)
  pub front : AppendsFront before after text
  pub cause : HasCause old new result

-- of a whole text the sink has taken all but the rest, and no call has failed
pub record HasWritten (before now : Option (List ℕ)) (old faults : ℕ) (whole rest : List ℕ) : Type 0 where
  pub done : List ℕ
  pub whole_is : done ++ rest ≡ whole
  pub taken : Appends before now done
  pub later : old ≤ faults
