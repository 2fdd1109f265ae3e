use Rattle.std.proofs.Common.{◌≡◌, ◌+◌, ◌-◌, ◌≤◌, length, drop}
use Rattle.std.specs.List.{prefix_len}
use Rattle.csv_source.specs.Shown.{shown}
use Rattle.text_pieces.specs.Writes.{HasWritten}
use Rattle.report_text.specs.Ordinary.{is_ordinary}
use Rattle.report_text.proofs.shown.write_shown.Given as goal

-- all is written but what stands from `at` on, of which the bytes before `end` stand for themselves
abbrev pub invariant-loop-end : goal.invariant-loop-end
invariant-loop-end g l = record {
  ordered : l.at ≤ l.end;
  within : l.end ≤ length l.bytes;
  run : l.end ≡ l.at + prefix_len is_ordinary (drop l.at l.bytes);
  has : HasWritten (g.K.Sink.taken l.fn.sink) (g.K.Sink.taken l.sink) (g.K.Sink.faults l.fn.sink) (g.K.Sink.faults l.sink) (shown l.bytes) (shown (drop l.at l.bytes));
}

abbrev pub decreases-loop-end : goal.decreases-loop-end
decreases-loop-end g l = length l.bytes - l.end
