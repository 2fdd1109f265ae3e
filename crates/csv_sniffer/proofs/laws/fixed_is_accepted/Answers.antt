use Rattle.csv_sniffer.proofs.FixedAccepted.{fixed_is_accepted}
use Rattle.csv_sniffer.proofs.laws.fixed_is_accepted.Goals as goal

pub returns : goal.returns
returns c = fixed_is_accepted
