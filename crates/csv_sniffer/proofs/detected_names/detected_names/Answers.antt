use Rattle.std.proofs.Common.{ap}
use Rattle.std.specs.Option.{option_copied}
use Rattle.csv_sniffer.specs.ColumnNames.{detected_names}
use Rattle.csv_sniffer.specs.Rows.{row_texts}
use Rattle.csv_sniffer.specs.Sniffed.{first_if}
use Rattle.csv_sniffer.proofs.Answered.{ok_equal}
use Rattle.csv_sniffer.proofs.detected_names.detected_names.Goals as goal

pub returns : goal.returns
returns c =
    let rows = c.args.rows.now in
    let d = rows.dialect in
    let header = first_if c.args.header (row_texts rows.sample.now rows.spans) in
    ok_equal c.names_by.result (detected_names d c.args.columns (option_copied c.in_ok-row.row)) (detected_names d c.args.columns header)
    (c.names_by.ensures d c.in_ok-row.ensures.ok) (ap (detected_names d c.args.columns) c.in_ok-row.ensures.value)
