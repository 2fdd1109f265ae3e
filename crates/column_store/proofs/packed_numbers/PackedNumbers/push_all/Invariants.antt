use Rattle.std.proofs.Common.{◌≡◌, ◌++◌, take}
use Rattle.column_store.specs.Nullable.{options, room}
use Rattle.column_store.specs.Numbers.{packed_options}
use Rattle.column_store.proofs.packed_numbers.PackedNumbers.push_all.Given as goal

-- the numbers so far are appended
abbrev pub invariant-loop-row : goal.invariant-loop-row
invariant-loop-row l =
    record {
      value : options l.wide ≡ options l.fn.wide ++ take l.row (packed_options l.self);
      room : room l.wide ≡ room l.fn.wide;
    }
