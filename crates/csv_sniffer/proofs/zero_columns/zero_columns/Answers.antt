use Rattle.std.proofs.Common.{◌≡◌, ℕ, List, length, min, drop, take, ◌∙◌, ap, arith}
use Rattle.std.proofs.lemmas.List.FromFn.{length-map-range_with_len}
use Rattle.csv_sniffer.specs.Rows.{row_texts}
use Rattle.csv_sniffer.specs.ZeroColumns.{loses_zeros_at}
use Rattle.csv_sniffer.specs.declared.zero_columns.TheConstants.{ZERO_COLUMNS, ZERO_ROWS}
use Rattle.csv_sniffer.proofs.zero_columns.zero_columns.Goals as goal

pub bits_of-requires : goal.bits_of-requires
bits_of-requires c =
    let tys = c.args.types.now in
    let rows : List (List ℕ) = drop c.from.result (take ZERO_ROWS (row_texts c.args.rows.now.sample.now c.args.rows.now.spans)) in
    let many : length c.deref.result.now ≡ min (length tys) ZERO_COLUMNS =
    ap length (c.deref.ensures.value ∙ c.in_ok-flags.ensures) ∙ length-map-range_with_len (loses_zeros_at c.args.options.now c.args.rows.now.dialect tys rows) 0 (min (length tys) ZERO_COLUMNS) in record {
      few = omega (arith, many);
    }
