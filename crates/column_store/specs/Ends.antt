-- Where chunks begin.
use Rattle.std.specs.Prelude.{ℕ, zero, suc, List}
use Rattle.std.specs.List.{slice_index_or}

-- how many rows stand before the chunk of this number, where these are the ends of the chunks
abbrev pub begin_of : List ℕ → ℕ → ℕ
begin_of ends zero = 0
begin_of ends (suc number) = slice_index_or ends number 0
