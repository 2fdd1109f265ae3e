use Rattle.std.proofs.Common.{arith}
use Rattle.column_store.proofs.Options.{length-options}
use Rattle.column_store.proofs.nullable_texts.NullableTexts.reserve_marks.Goals as goal

pub returns-clause-ok : goal.returns-clause-ok
returns-clause-ok c = let s = c.args.self.now in omega (arith, c.in_ok-reserve.ensures.ok, length-options s.nulls.items s.texts)
