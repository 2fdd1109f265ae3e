use Rattle.std.proofs.Common.{◌≡◌, ◌+◌, [], ◌∷◌, ◌++◌, ◌∙◌, ap, arith, get_or, map, take, subst, sym, All}
use Rattle.std.proofs.lemmas.List.{map_more, take_all}
use Rattle.std.proofs.lemmas.List.Elements.{All-push}
use Rattle.sqlite_value.specs.Order.{Row}
use Rattle.db_records.specs.Record.{IsWritable}
use Rattle.reject_book.specs.declared.fields.RejectField.TheVariants.{Number}
use Rattle.db_writer.specs.Field.{field_value}
use Rattle.db_writer.specs.Written.{with_values}
use Rattle.db_writer.proofs.RowsLaid.{one-more}
use Rattle.db_writer.proofs.fields.push_fields.Goals as goal

pub loop-field-preserved : goal.loop-field-preserved
loop-field-preserved c =
    let i = c.loop-field.field-index in
    let fields = c.args.fields.now in
    let before : Row = map field_value (take i fields) in
    let more : map field_value (take (i + 1) fields) ≡ before ++ field_value (get_or fields i (Number 0)) ∷ [] = map_more field_value fields i (Number 0) (omega arith) in
    record {
      rows = one-more c.args.writer.now _ _ before _ c.loop-field.invariant.rows c.in_ok-push_field.ensures.ok ∙ ap (with_values c.args.writer.now) (sym more);
      counted = subst (All IsWritable) (sym more) (All-push IsWritable before _ c.loop-field.invariant.counted c.in_ok-push_field.ensures.counted);
    }

pub returns : goal.returns
returns c =
    let all = take_all c.loop-field.field-index c.args.fields.now (omega arith) in
    record {
      ok = c.loop-field.invariant.rows ∙ ap (λ fs. with_values c.args.writer.now (map field_value fs)) all;
      counted = subst (λ fs. All IsWritable (map field_value fs)) all c.loop-field.invariant.counted;
    }
