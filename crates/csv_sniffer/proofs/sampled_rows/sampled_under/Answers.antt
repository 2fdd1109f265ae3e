use Rattle.std.proofs.lemmas.List.Elements.{All-same}
use Rattle.dialect_rank.specs.Sampled.{sampled_spans}
use Rattle.csv_sniffer.specs.Rows.{IsRow}
use Rattle.csv_sniffer.proofs.StandAlone.{sampled_alone}
use Rattle.csv_sniffer.proofs.sampled_rows.sampled_under.Goals as goal

pub returns-clause-rows : goal.returns-clause-rows
returns-clause-rows c =
    let d = c.args.dialect in
    let sample = c.args.sample.now in
    let size = c.args.sample_size in
    All-same (IsRow d sample) c.in_ok-spans.spans (sampled_spans d sample c.args.whole size) c.in_ok-spans.ensures (sampled_alone d sample c.args.whole size)
