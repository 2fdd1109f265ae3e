use Rattle.std.proofs.Common.{◌≡◌, ◌-◌, length}
use Rattle.column_store.specs.Nullable.{options, room}
use Rattle.column_store.proofs.nullable.Nullable.mark_before.Given as goal

abbrev pub invariant-loop-self : goal.invariant-loop-self
invariant-loop-self g l =
    record {
      value : options l.self ≡ options l.fn.self;
      kept : l.self.values ≡ l.fn.self.values;
      room : room l.self ≡ room l.fn.self;
    }

abbrev pub decreases-loop-self : goal.decreases-loop-self
decreases-loop-self g l = length l.self.values.items - length l.self.nulls.items
