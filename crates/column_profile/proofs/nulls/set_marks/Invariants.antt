use Rattle.std.proofs.Common.{◌≡◌, ◌≤◌, take}
use Rattle.std.specs.Prelude.{count_by}
use Rattle.column_profile.proofs.nulls.set_marks.Given as goal

abbrev pub invariant-loop-mark : goal.invariant-loop-mark
invariant-loop-mark l =
    record {
      total : l.count ≡ count_by (λ mark. mark) (take l.mark-index l.marks);
      few : l.count ≤ l.mark-index;
    }
