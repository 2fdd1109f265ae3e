use Rattle.std.proofs.Common.{◌≡◌, map, take, All}
use Rattle.db_records.specs.Record.{IsWritable}
use Rattle.db_writer.specs.Field.{field_value}
use Rattle.db_writer.specs.Written.{with_values}
use Rattle.db_writer.proofs.fields.push_fields.Given as goal

abbrev pub invariant-loop-field : goal.invariant-loop-field
invariant-loop-field l = record {
  rows : l.writer ≡ with_values l.fn.writer (map field_value (take l.field-index l.fields));
  counted : All IsWritable (map field_value (take l.field-index l.fields));
}
