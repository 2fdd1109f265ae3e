use Rattle.load_options.proofs.AcceptedLaws.{output_accepted}
use Rattle.load_options.proofs.laws.accepted_output.Goals as goal

pub returns : goal.returns
returns c = λ words request read. output_accepted words request read
