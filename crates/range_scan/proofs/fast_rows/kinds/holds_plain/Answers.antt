use Rattle.std.proofs.Common.{◌≡◌, ◌<◌, ◌∙◌, ℕ, Option, false, sym, ap, subst, arith, length, rules}
use Rattle.std.specs.Prelude.{IfSome}
use Rattle.std.specs.List.{list_any}
use Rattle.std.proofs.lemmas.Bool.{ltb-true, or_from}
use Rattle.range_scan.specs.FastRows.{begins_plain, is_plain_in}
use Rattle.range_scan.proofs.PlainTests.{none_is_cr, none_is_lf}
use Rattle.range_scan.proofs.fast_rows.kinds.holds_plain.Goals as goal

pub returns : goal.returns
returns c = λ some.
    let context = c.args.context.now in
    let types = context.schema.types in
    let count : 0 < length types = subst (λ n. 0 < n) c.len.ensures (ltb-true 0 c.len.result some) in
    record {
      some = omega (arith, count);
      leaves = record {
        sound = search rules;
        lf = none_is_lf types;
        cr = none_is_cr types;
        delim = ap (is_plain_in types) (sym c.delim.ensures) ∙ sym c.is_plain_in.ensures ∙ c.if-is_plain_in.false;
        quote = subst (λ (o : Option ℕ). IfSome o (λ q. is_plain_in types q ≡ false)) c.quote.ensures.value (c.is_plain_mark.ensures c.if-is_plain_mark.false);
        comment = subst (λ (o : Option ℕ). IfSome o (λ q. is_plain_in types q ≡ false)) c.comment.ensures (c.is_plain_mark-else-is_plain_mark.ensures c.if-is_plain_mark-2.false);
      };
      null = or_from (begins_plain (is_plain_in types) context.schema.nullstr) (list_any (begins_plain (is_plain_in types)) context.schema.nulls)
          (ap (begins_plain (is_plain_in types)) (sym c.as_slice.ensures) ∙ sym c.is_plain_front.ensures ∙ c.if-is_plain_front.false)
          (sym c.has_plain_front.ensures ∙ c.if-has_plain_front.false);
    }
