use Rattle.std.proofs.Common.{◌≡◌, rules, ℕ, List, false, [], drop, take, replicate, sym, ◌∙◌, ap, arith}
use Rattle.std.proofs.lemmas.List.{drop_all, length-map, length-take}
use Rattle.dialect_rank.specs.Sampled.{span_bytes}
use Rattle.csv_sniffer.specs.Rows.{row_texts}
use Rattle.csv_sniffer.specs.ZeroColumns.{zero_flags}
use Rattle.csv_sniffer.specs.declared.zero_columns.TheConstants.{ZERO_ROWS}
use Rattle.csv_sniffer.proofs.ZeroLaws.{zero_flags-none}
use Rattle.csv_sniffer.proofs.zero_columns.zero_flags.Goals as goal

pub loop-row-init : goal.loop-row-init
loop-row-init c =
    let o = c.args.columns.now.options.now in
    let d = c.args.rows.now.dialect in
    let tys = c.args.columns.now.types.now in
    let spans = c.args.rows.now.spans in
    let sample : List ℕ = c.args.rows.now.sample.now in
    let texts : List (List ℕ) = row_texts sample spans in
    let none_left : drop c.min-row.result (take ZERO_ROWS texts) ≡ [] =
    drop_all c.min-row.result (take ZERO_ROWS texts) (omega (arith, c.min-row.ensures, c.len.ensures, length-take ZERO_ROWS texts, length-map spans (span_bytes sample))) in record {
      low = omega (arith, c.min-row.ensures, c.len.ensures, c.requires.some, c.requires.few);
      high = omega (arith, c.min-row.ensures, c.len.ensures);
      few = omega (arith, c.min-row.ensures);
      flags = c.in_ok-flags.ensures.items_if_clones_equal (search rules) ∙ (λ i. replicate (c.min.ensures i) false)
          ∙ zero_flags-none o d tys ∙ ap (zero_flags o d tys) (sym none_left);
    }
