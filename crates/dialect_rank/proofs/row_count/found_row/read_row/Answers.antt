use Rattle.dialect_rank.proofs.FoundRows.{read_at}
use Rattle.dialect_rank.proofs.row_count.found_row.read_row.Goals as goal

pub returns : goal.returns
returns c =
    let d = c.args.dialect.now in
    let sample = c.args.sample.now in
    let at = c.args.from in
    let end = c.in_ok-end.end in
    let read = c.in_ok-end.ensures in
    read_at d sample at end c.shape_of.result c.closed_fields.result c.read_row.new.self read.ok read.within.0 read.value c.shape_of.ensures c.closed_fields.ensures.value
