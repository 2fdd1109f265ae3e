use Rattle.std.proofs.Common.{refl}
use Rattle.std.proofs.lemmas.List.{take_rest}
use Rattle.csv_sniffer.proofs.FoundPlaces.{placed_in}
use Rattle.csv_sniffer.proofs.finding.place_under.Goals as goal

pub returns-clause-ok : goal.returns-clause-ok
returns-clause-ok c =
    placed_in c.args.options.now c.args.sniffed.now c.args.input.now _ c.sample_of.result.now c.sample_start-start.result c.in_ok-start_under.field-0 _ c.in_ok-start_under.ensures.ok
    c.sample_of.ensures.value refl (take_rest c.args.input.now c.sample_start-start.result) c.sample_start-start.ensures.value
