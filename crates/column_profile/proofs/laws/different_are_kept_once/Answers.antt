use Rattle.column_profile.proofs.ApartLaws.{different_kept}
use Rattle.column_profile.proofs.laws.different_are_kept_once.Goals as goal

pub returns : goal.returns
returns c = different_kept
