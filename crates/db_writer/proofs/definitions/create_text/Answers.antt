use Rattle.std.proofs.Common.{length, ◌∙◌, ap}
use Rattle.db_writer.proofs.NamesApart.{length-database_names}
use Rattle.db_writer.proofs.definitions.create_text.Goals as goal

pub push_columns-requires : goal.push_columns-requires
push_columns-requires c = ap length c.in_ok-names.ensures ∙ length-database_names c.args.names.now ∙ c.requires
