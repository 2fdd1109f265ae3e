use Rattle.std.proofs.Common.{◌≡◌, [], ◌∷◌, ◌++◌, length, map, sym, ◌∙◌, ap, arith}
use Rattle.std.specs.List.{range_with_len}
use Rattle.std.proofs.lemmas.List.FromFn.{map-range_with_len_more}
use Rattle.csv_sniffer.specs.Columns.{column_sample}
use Rattle.csv_sniffer.proofs.explaining.entries.no_samples.Goals as goal

pub loop-column-preserved : goal.loop-column-preserved
loop-column-preserved c =
    c.in_ok-push.ensures.items ∙ (λ i. c.loop-column.invariant i ++ c.in_ok-column_sample.ensures i ∷ [])
    ∙ sym (map-range_with_len_more (λ column. column_sample c.args.options.now c.args.sniffed.now column []) 0 c.loop-column.column c.loop-column.column (omega arith))

pub returns : goal.returns
returns c =
    c.loop-column.invariant
    ∙ ap (λ n. map (λ column. column_sample c.args.options.now c.args.sniffed.now column []) (range_with_len 0 n))
    (let all : c.loop-column.column ≡ length c.args.sniffed.now.types = omega arith in all)
