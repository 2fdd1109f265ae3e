use Rattle.csv_sniffer.proofs.RankOrder.{first_candidate_is_found}
use Rattle.csv_sniffer.proofs.laws.first_candidate_is_found.Goals as goal

pub returns : goal.returns
returns c = first_candidate_is_found
