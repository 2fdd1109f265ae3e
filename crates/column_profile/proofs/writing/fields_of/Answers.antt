use Rattle.std.proofs.Common.{◌≡◌, [], ◌∷◌, ap, ◌∙◌}
use Rattle.std.specs.Fmt.{decimal}
use Rattle.csv_writer.specs.WrittenTable.{line_of_fields, text_field}
use Rattle.value_types.specs.TypeName.{name_of_type}
use Rattle.column_profile.proofs.LineSteps.{count_kept, type_is_bare}
use Rattle.column_profile.proofs.writing.fields_of.Goals as goal

pub returns-clause-text : goal.returns-clause-text
returns-clause-text c =
    let ty = c.args.ty in
    let type_text : text_field c.as_bytes.result.now ≡ name_of_type ty = ap text_field (c.as_bytes.ensures.value ∙ c.type_name.ensures) ∙ type_is_bare ty in
    let distinct = c.distinct_field.ensures.text ∙ count_kept c.args.column.now.different in
    λ i. line_of_fields (
    decimal c.args.number
    ∷ text_field c.args.name.now
    ∷ type_text i
    ∷ decimal c.args.rows
    ∷ decimal c.args.column.now.nulls
    ∷ distinct i
    ∷ c.span_fields.ensures.least i
    ∷ c.span_fields.ensures.greatest i
    ∷ c.length_fields.ensures.shortest i
    ∷ c.length_fields.ensures.longest i
    ∷ [])
