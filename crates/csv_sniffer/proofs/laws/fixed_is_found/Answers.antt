use Rattle.std.proofs.Common.{drop}
use Rattle.csv_sniffer.specs.Sample.{start_of_sample, sample_of, is_whole}
use Rattle.csv_sniffer.proofs.FixedLaws.{sniffed_again}
use Rattle.csv_sniffer.proofs.laws.fixed_is_found.Goals as goal

pub returns : goal.returns
returns c = λ o input accepted. let behind = drop (start_of_sample o.skip input) input in sniffed_again o (sample_of behind) (is_whole behind) accepted
