use Rattle.csv_writer.proofs.Bare.{bare_number}
use Rattle.csv_writer.proofs.laws.numbers_are_bare.Goals as goal

pub returns : goal.returns
returns c = λ n. bare_number n
