use Rattle.std.proofs.Common.{arith}
use Rattle.std.specs.Prelude.{List, slice_index_or}
use Rattle.csv_writer.proofs.Lines.{field_appended}
use Rattle.std.proofs.lemmas.Option.{slice_get-get_or}
use Rattle.reject_book.specs.declared.fields.RejectField.{RejectField}
use Rattle.reject_book.specs.declared.fields.RejectField.TheVariants.{Number}
use Rattle.csv_writer.specs.WrittenField.{written_field}
use Rattle.csv_writer.proofs.rejects.line.push_line.Goals as goal

pub loop-column-preserved : goal.loop-column-preserved
loop-column-preserved c =
    let fields : List RejectField = c.args.fields.now in
    let k = c.loop-column.column in
    let nothing : RejectField = Number 0 in
    let field : RejectField = slice_index_or fields k nothing in
    field_appended written_field fields k field c.args.into.now.text c.loop-column.into.text c.push_comma.new.into.text c.push_field.new.into.text
    (slice_get-get_or fields k nothing (omega (arith, c.loop-column-test.true))) c.loop-column.invariant c.in_ok-push_comma.ensures.ok c.in_ok-push_field.ensures
