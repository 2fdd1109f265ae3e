use Rattle.std.proofs.Common.{◌≤◌, length, sym, ◌∙◌, subst}
use Rattle.csv_sniffer.specs.Sniffed.{behind_row, first_if}
use Rattle.csv_sniffer.proofs.StartLaws.{start_within}
use Rattle.csv_sniffer.proofs.later_start.start_under.Goals as goal

pub returns-clause-within : goal.returns-clause-within
returns-clause-within c =
    let d = c.args.found.now.dialect in
    let sample = c.args.sample.now in
    let header = c.if-has_whole_row.header in
    subst (λ n. n ≤ length sample) (sym (c.data_start.ensures ∙ (λ i. behind_row (c.in_ok-rows.ensures.sample i) (first_if header (c.in_ok-rows.ensures.spans i)))))
    (start_within d sample c.args.whole c.args.options.now.sample_size header)
