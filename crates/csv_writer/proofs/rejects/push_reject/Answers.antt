use Rattle.std.proofs.Common.{◌≡◌, List, ◌++◌, ap, map, sym, ◌∙◌}
use Rattle.std.proofs.lemmas.Result.{on_ok_weaker}
use Rattle.std.proofs.lemmas.Simd.{map-map}
use Rattle.csv_writer.specs.WrittenTable.{line_of_fields, text_field}
use Rattle.reject_book.specs.declared.fields.RejectField.{RejectField}
use Rattle.reject_book.specs.Fields.{field_of}
use Rattle.csv_writer.specs.WrittenField.{plain_field, written_field}
use Rattle.csv_writer.specs.WrittenRejects.{reject_fields}
use Rattle.csv_writer.proofs.rejects.push_reject.Goals as goal

pub returns : goal.returns
returns c =
    let fields : List RejectField = c.fields-fields.result in
    let written : map written_field fields ≡ map text_field (reject_fields c.args.reject.now) =
    sym (map-map text_field (λ f. plain_field (field_of f)) fields) ∙ ap (map text_field) (sym (map-map plain_field field_of fields))
    ∙ ap (λ fs. map text_field (map plain_field fs)) c.fields-fields.ensures.value in
    on_ok_weaker c.push_line.result (λ out. out ∙ ap (λ line. c.args.into.now.text ++ line_of_fields line) written) c.push_line.ensures
