use Rattle.load_options.proofs.AcceptedLaws.{size_accepted}
use Rattle.load_options.proofs.laws.accepted_size.Goals as goal

pub returns : goal.returns
returns c = λ words request read. size_accepted words request read
