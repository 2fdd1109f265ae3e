use Rattle.std.proofs.Common.{◌≡◌, ◌+◌, ◌-◌, ◌<◌, ◌≤◌, [], ◌++◌, length, take}
use Rattle.std.specs.Prelude.{flat_map, slice_range}
use Rattle.npz_writer.specs.Blocks.{unmarked}
use Rattle.npz_writer.proofs.run.Run.fill_texts.Given as goal

-- some texts are put into the block, the last one perhaps in part
abbrev pub invariant-loop-pending : goal.invariant-loop-pending
invariant-loop-pending l = let all = unmarked [] l.nulls l.texts in record {
  room : l.at ≤ length l.block;
  low : l.fn.self.row ≤ l.row;
  high : l.row ≤ l.fn.self.rows;
  bytes : l.fn.self.pending.now ++ flat_map (λ text. text) (slice_range all l.fn.self.row l.fn.self.rows) ≡ take l.at l.block ++ (l.pending ++ flat_map (λ text. text) (slice_range all l.row l.fn.self.rows));
  first : l.row ≡ l.fn.self.row → length l.pending + l.at ≡ length l.fn.self.pending.now;
  some : 0 < length l.fn.self.pending.now → 0 < l.at;
}

abbrev pub decreases-loop-pending : goal.decreases-loop-pending
decreases-loop-pending l = l.fn.self.rows - l.row
