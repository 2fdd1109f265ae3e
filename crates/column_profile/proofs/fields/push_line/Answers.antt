use Rattle.std.proofs.Common.{List, arith}
use Rattle.std.specs.List.{slice_index_or}
use Rattle.std.proofs.lemmas.Option.{slice_get-get_or}
use Rattle.csv_writer.proofs.Lines.{field_appended}
use Rattle.column_profile.specs.declared.fields.Field.{Field}
use Rattle.column_profile.specs.declared.fields.Field.TheVariants.{Nothing}
use Rattle.column_profile.specs.Fields.{field_text}
use Rattle.column_profile.proofs.fields.push_line.Goals as goal

pub loop-number-preserved : goal.loop-number-preserved
loop-number-preserved c =
    let fields : List Field = c.args.fields.now in
    let k = c.loop-number.number in
    field_appended field_text fields k (slice_index_or fields k Nothing) c.args.into.now.text c.loop-number.into.text c.push_comma.new.into.text c.push_field.new.into.text
    (slice_get-get_or fields k Nothing (omega (arith, c.loop-number-test.true))) c.loop-number.invariant c.in_ok-push_comma.ensures c.in_ok-push_field.ensures
