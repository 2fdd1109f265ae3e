use Rattle.std.proofs.Common.{◌∙◌, length, ap, arith}
use Rattle.column_store.specs.Nullable.{options_of}
use Rattle.column_store.proofs.Options.{length-options, options-unmarked}
use Rattle.column_store.proofs.nullable_texts.NullableTexts.mark_before.Goals as goal

pub push_reserved-requires : goal.push_reserved-requires
push_reserved-requires c =
    let s = c.loop-self.self in
    let so_far = c.loop-self.invariant in
    omega (arith, c.requires, ap length so_far.value, so_far.room, length-options s.nulls.items s.texts, c.len.ensures, c.len-in-loop-self.ensures, c.if-len.true)

pub loop-self-preserved : goal.loop-self-preserved
loop-self-preserved c =
    let s = c.loop-self.self in
    let so_far = c.loop-self.invariant in
    record {
      value = ap (λ nulls. options_of nulls s.texts) c.push_reserved.ensures.items ∙ options-unmarked s.nulls.items s.texts ∙ so_far.value;
      kept = so_far.kept;
      room = c.push_reserved.ensures.capacity ∙ so_far.room;
    }
