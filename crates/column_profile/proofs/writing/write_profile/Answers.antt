use Rattle.std.proofs.Common.{◌∙◌, map}
use Rattle.csv_writer.specs.WrittenTable.{line_of_fields, names_line}
use Rattle.column_profile.specs.Fields.{field_text}
use Rattle.column_profile.specs.Kept.{tally_in}
use Rattle.column_profile.specs.Profile.{line_at, profile_fields}
use Rattle.column_profile.proofs.LineSteps.{line_looked_up, line_more}
use Rattle.column_profile.proofs.writing.write_profile.Goals as goal

pub loop-number-preserved : goal.loop-number-preserved
loop-number-preserved c =
    let names = c.args.names.now in
    let profile = c.args.profile.now in
    let number = c.loop-number.number in
    line_more (line_at names profile) number (names_line profile_fields) c.loop-number.text.text c.push_line.new.into.text (line_of_fields (map field_text c.fields_of-fields.result))
    c.loop-number.invariant c.in_ok-push_line.ensures
    (c.fields_of-fields.ensures.text
    ∙ line_looked_up names profile number c.get.result.now c.type_of-ty.result c.rows.result (tally_in c.column-column.result.now) c.get.ensures c.type_of-ty.ensures c.rows.ensures
    c.column-column.ensures.tally)
