use Rattle.csv_sniffer.proofs.FixedInputs.{fixed_is_found_in_all}
use Rattle.csv_sniffer.proofs.laws.fixed_is_found_in_all.Goals as goal

pub returns : goal.returns
returns c = fixed_is_found_in_all
