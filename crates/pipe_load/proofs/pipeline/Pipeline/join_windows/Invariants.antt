use Rattle.std.proofs.Common.{◌≡◌, vec_len}
use Rattle.crossbeam_queue.specs.Passes.{view}
use Rattle.pipe_load.specs.Feeding.{made_of}
use Rattle.pipe_load.specs.Joining.{AddsWindows}
use Rattle.pipe_load.specs.Slots.{AreSlots, HasPut, IsAllHeld}
use Rattle.pipe_load.proofs.pipeline.Pipeline.join_windows.Given as goal

abbrev pub invariant-loop-number : goal.invariant-loop-number
invariant-loop-number g l = record {
  pass : HasPut l.windows (view l.fn.feed.pass).put l.pass;
  many : vec_len l.slots.slots ≡ l.fn.reader.number;
  slots : AreSlots l.self.scanner.ranges.context.now l.self.scanner.layout (made_of l.fn.feed) l.slots;
  held : IsAllHeld l.number l.slots (view l.pass);
  adds : AddsWindows l.self.scanner.ranges.context.now l.self.scanner.layout (made_of l.fn.feed) l.fn.reader.number l.number l.fn.joined l.joined;
  same : (l.reader.window ≡ l.fn.reader.window) × (l.reader.number ≡ l.fn.reader.number) × (l.reader.layout ≡ l.fn.reader.layout);
}
