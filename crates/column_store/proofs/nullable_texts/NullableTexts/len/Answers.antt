use Rattle.std.proofs.Common.{arith}
use Rattle.column_store.proofs.Options.{length-options}
use Rattle.column_store.proofs.nullable_texts.NullableTexts.len.Goals as goal

pub returns : goal.returns
returns c = let s = c.args.self.now in omega (arith, length-options s.nulls.items s.texts)
