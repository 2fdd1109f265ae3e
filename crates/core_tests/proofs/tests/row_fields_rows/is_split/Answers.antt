use Rattle.std.proofs.Common.{◌≡◌, length, sym, subst}
use Rattle.std.specs.Prelude.{slice_range}
use Rattle.quote_automaton.specs.RowEnd.{row_len}
use Rattle.row_fields.proofs.RowsAlone.{row_from-alone}
use Rattle.core_tests.proofs.tests.row_fields_rows.is_split.Goals as goal

pub split_row-requires : goal.split_row-requires
split_row-requires c =
    let d = c.args.dialect.now in
    let text = c.args.text.now in
    record {
      whole = subst (λ end. row_len d (slice_range text 0 end) 0 ≡ length (slice_range text 0 end)) (sym c.in_ok-end.ensures.ok) (row_from-alone d text 0);
    }
