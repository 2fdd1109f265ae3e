use Rattle.std.proofs.Common.{◌≡◌, ◌-◌, length}
use Rattle.std.specs.Prelude.{vec_capacity}
use Rattle.column_store.specs.Nullable.{texts_or_null}
use Rattle.column_store.proofs.nullable_texts.NullableTexts.mark_before.Given as goal

abbrev pub invariant-loop-self : goal.invariant-loop-self
invariant-loop-self l =
    record {
      value : texts_or_null l.self ≡ texts_or_null l.fn.self;
      kept : l.self.texts ≡ l.fn.self.texts;
      room : vec_capacity l.self.nulls ≡ vec_capacity l.fn.self.nulls;
    }

abbrev pub decreases-loop-self : goal.decreases-loop-self
decreases-loop-self l = length l.self.texts - length l.self.nulls.items
