use Rattle.std.proofs.Common.{◌++◌, ◌∙◌, ap, arith}
use Rattle.std.specs.Prelude.{zip}
use Rattle.std.proofs.lemmas.List.{take_all}
use Rattle.db_writer.specs.Definitions.{columns_text}
use Rattle.db_writer.proofs.DefinitionTexts.{column-appended, length-zip}
use Rattle.db_writer.proofs.definitions.push_columns.Goals as goal

pub loop-column-preserved : goal.loop-column-preserved
loop-column-preserved c =
    column-appended c.args.names.now c.args.types.now c.loop-column.column c.get.result.now c.get-in-loop-column.result c.args.into.now.items c.loop-column.into.items
    c.push_separator.new.into.items c.push_quoted.new.into.items c.append.new.into.items c.append-in-loop-column.new.into.items c.get.ensures c.get-in-loop-column.ensures
    c.loop-column.invariant c.in_ok-push_separator.ensures c.in_ok-push_quoted.ensures c.in_ok-append.ensures
    (c.in_ok-append-2.ensures ∙ ap (λ xs. c.append.new.into.items ++ xs) (c.as_bytes.ensures.value ∙ c.type_name.ensures))

pub returns : goal.returns
returns c =
    c.loop-column.invariant
    ∙ ap (λ columns. c.args.into.now.items ++ columns_text columns)
    (take_all c.loop-column.column (zip c.args.names.now c.args.types.now)
    (omega (arith, length-zip c.args.names.now c.args.types.now c.requires, c.loop-column-test.false, c.len-column-end.ensures)))
