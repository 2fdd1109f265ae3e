use Rattle.csv_sniffer.proofs.FoundPlaces.{own_place}
use Rattle.csv_sniffer.proofs.laws.own_place.Goals as goal

pub returns : goal.returns
returns c = own_place
