-- Lines that are counted from place to place.
use Rattle.std.specs.Prelude.{◌≡◌, ℕ, ◌≤◌, List, length}
use Rattle.csv_sniffer.specs.Entries.{line_at}
use Rattle.csv_sniffer.specs.declared.explaining.line_count.LineCount.{LineCount}

-- the line is that of the place
pub record IsCounted (front sample : List ℕ) (count : LineCount) : Type 0 where
  pub within : count.at ≤ length sample
  pub here : count.line ≡ line_at front sample count.at
