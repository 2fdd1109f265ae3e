use Rattle.std.proofs.Common.{◌≡◌, ◌++◌, ◌∙◌, pos, flat_map, ap, codes, arith, to_z, of_z, to_z-of_z, w64}
use Rattle.sqlite_value.specs.declared.value.Value.TheVariants.{Int, Text}
use Rattle.sqlite_value.specs.Order.{Row}
use Rattle.db_records.specs.Record.{record_of, type_bytes, value_bytes}
use Rattle.db_pages.specs.Image.{list_row}
use Rattle.db_pages.specs.Numbers.{number_of}
use Rattle.db_pages.proofs.Appends.{five_behind}
use Rattle.db_pages.proofs.schema_table.list_row.Goals as goal

pub returns : goal.returns
returns c =
    let row : Row = list_row c.args.name.now c.args.sql.now c.args.root in
    let number : c.from.result ≡ pos (number_of c.args.root) = c.from.ensures ∙ ap pos c.in_ok-number_of.ensures in
    let same : to_z w64 (of_z w64 c.from.result) ≡ c.from.result = grind (arith, to_z-of_z) in
    let types : c.push_text-4.new.types.text ≡ flat_map type_bytes row =
    five_behind c.new-types.result.text (type_bytes (Text (codes "table"))) (type_bytes (Text c.args.name.now)) (type_bytes (Text c.args.name.now))
    (type_bytes (Int (pos (number_of c.args.root)))) (type_bytes (Text c.args.sql.now)) _ _ _ _ _ c.new-types.ensures
    c.in_ok-push_text.ensures.types c.in_ok-push_text-2.ensures.types c.in_ok-push_text-3.ensures.types
    (c.in_ok-push_integer.ensures.types ∙ ap (λ n. c.push_text-3.new.types.text ++ type_bytes (Int n)) (same ∙ number)) c.in_ok-push_text-4.ensures.types in
    let body : c.push_text-4.new.body.text ≡ flat_map value_bytes row =
    five_behind c.new-body.result.text (value_bytes (Text (codes "table"))) (value_bytes (Text c.args.name.now)) (value_bytes (Text c.args.name.now))
    (value_bytes (Int (pos (number_of c.args.root)))) (value_bytes (Text c.args.sql.now)) _ _ _ _ _ c.new-body.ensures
    c.in_ok-push_text.ensures.body c.in_ok-push_text-2.ensures.body c.in_ok-push_text-3.ensures.body
    (c.in_ok-push_integer.ensures.body ∙ ap (λ n. c.push_text-3.new.body.text ++ value_bytes (Int n)) (same ∙ number)) c.in_ok-push_text-4.ensures.body in
    c.into_text.ensures
    ∙ c.in_ok-push_record.ensures.ok
    ∙ ap (λ xs. xs ++ record_of c.push_text-4.new.types.text c.push_text-4.new.body.text) c.new-row.ensures
    ∙ ap (λ xs. record_of xs c.push_text-4.new.body.text) types
    ∙ ap (λ xs. record_of (flat_map type_bytes row) xs) body
