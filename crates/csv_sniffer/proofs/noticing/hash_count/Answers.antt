use Rattle.std.proofs.Common.{◌≡◌, ◌+◌, List, ℕ, ◌∙◌, ap, arith}
use Rattle.std.specs.Int.{from_bool}
use Rattle.std.specs.Option.{option_map}
use Rattle.std.proofs.lemmas.Option.{slice_get-map}
use Rattle.dialect_rank.specs.Sampled.{span_bytes}
use Rattle.csv_sniffer.specs.Noticed.{begins_with}
use Rattle.csv_sniffer.specs.Rows.{row_texts}
use Rattle.csv_sniffer.proofs.ListWalks.{count_on, one_at_most}
use Rattle.csv_sniffer.proofs.noticing.hash_count.Goals as goal

pub loop-row-preserved : goal.loop-row-preserved
loop-row-preserved c =
    let spans = c.args.rows.now.spans in
    let sample : List ℕ = c.args.rows.now.sample.now in
    let row = c.loop-row.row in
    let text : List ℕ = span_bytes sample c.get-from.result in
    let at = slice_get-map (span_bytes sample) spans row ∙ ap (option_map (span_bytes sample)) c.get-from.ensures in
    let one : c.from-count.result ≡ from_bool (begins_with 35 text) = c.from-count.ensures ∙ ap from_bool c.begins_with.ensures in record {
      most = omega (arith, c.loop-row.invariant.most, one, one_at_most (begins_with 35 text));
      high = omega (arith, c.loop-row-test.true, c.len-row-end.ensures);
      counted = ap (λ n. c.loop-row.count + n) one ∙ count_on (begins_with 35) (row_texts sample spans) row text c.loop-row.count at c.loop-row.invariant.counted;
    }
