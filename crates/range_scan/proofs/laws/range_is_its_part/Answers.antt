use Rattle.range_scan.proofs.JoinedParts.{range_is_part}
use Rattle.range_scan.proofs.laws.range_is_its_part.Goals as goal

pub returns : goal.returns
returns c = range_is_part
