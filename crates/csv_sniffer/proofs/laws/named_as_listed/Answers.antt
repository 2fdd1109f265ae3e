use Rattle.csv_sniffer.proofs.NamedLaws.{named_as_listed}
use Rattle.csv_sniffer.proofs.laws.named_as_listed.Goals as goal

pub returns : goal.returns
returns c = λ o sample whole types accepted. named_as_listed o sample whole types accepted
