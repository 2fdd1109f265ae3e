use Rattle.std.proofs.Common.{◌≡◌, List, ap, map, subst, sym, ◌∙◌, All}
use Rattle.std.proofs.lemmas.Result.{on_ok_weaker}
use Rattle.std.proofs.lemmas.Simd.{map-map}
use Rattle.db_records.specs.Record.{IsWritable}
use Rattle.reject_book.specs.declared.fields.RejectField.{RejectField}
use Rattle.reject_book.specs.Fields.{field_of}
use Rattle.db_writer.specs.Field.{field_value, stored_field}
use Rattle.db_writer.specs.Rejects.{reject_row}
use Rattle.db_writer.specs.Written.{with_values}
use Rattle.db_writer.proofs.RowsLaid.{row-ended}
use Rattle.db_writer.proofs.rejects.push_reject.Goals as goal

pub returns : goal.returns
returns c =
    let w = c.args.writer.now in
    let fields : List RejectField = c.fields-fields.result in
    let row : map field_value fields ≡ reject_row c.args.reject.now = sym (map-map stored_field field_of fields) ∙ ap (map stored_field) c.fields-fields.ensures.value in
    record {
      ok = on_ok_weaker c.end_row.result (λ out. row-ended w c.push_fields.new.writer c.end_row.new.self (reject_row c.args.reject.now) c.requires.none (c.in_ok-push_fields.ensures.ok ∙ ap (with_values w) row) out) c.end_row.ensures.ok;
      counted = on_ok_weaker c.end_row.result (λ _. subst (All IsWritable) row c.in_ok-push_fields.ensures.counted) c.end_row.ensures.ok;
    }
