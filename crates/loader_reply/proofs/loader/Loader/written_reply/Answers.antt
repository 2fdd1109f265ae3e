use Rattle.std.proofs.Common.{ap, sym, subst, length, ◌∙◌}
use Rattle.std.specs.Prelude.{All}
use Rattle.csv_writer.specs.Writable.{IsWritableRow}
use Rattle.loader_reply.proofs.loader.Loader.written_reply.Goals as goal

pub write_table-requires-clause-names : goal.write_table-requires-clause-names
write_table-requires-clause-names g c = c.requires.printable.names ∙ ap length (sym (c.into_table.ensures.types ∙ c.requires.printable.types))

pub write_table-requires-clause-writable : goal.write_table-requires-clause-writable
write_table-requires-clause-writable g c = subst (All IsWritableRow) (sym c.into_table.ensures.rows) c.requires.printable.values
