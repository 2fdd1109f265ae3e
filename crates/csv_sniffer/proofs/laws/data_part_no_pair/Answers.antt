use Rattle.csv_sniffer.proofs.DataPlaceLaws.{data_part_no_pair}
use Rattle.csv_sniffer.proofs.laws.data_part_no_pair.Goals as goal

pub returns : goal.returns
returns c = data_part_no_pair
