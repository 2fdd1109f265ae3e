use Rattle.std.proofs.Common.{◌≡◌, drop}
use Rattle.std.specs.List.{position_from}
use Rattle.npz_writer.specs.LongKeys.{is_long}
use Rattle.npz_writer.proofs.long_keys.long_key.Given as goal

-- the first one is the first of those that are left
abbrev pub invariant-loop-column : goal.invariant-loop-column
invariant-loop-column l = position_from is_long l.column (drop l.column l.sniffed.names) ≡ position_from is_long 0 l.sniffed.names
