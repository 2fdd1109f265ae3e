use Rattle.range_scan.proofs.JoinedParts.{appended_is_part}
use Rattle.range_scan.proofs.laws.appended_is_the_join.Goals as goal

pub returns : goal.returns
returns c = appended_is_part
