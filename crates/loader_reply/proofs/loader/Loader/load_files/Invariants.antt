use Rattle.std.proofs.Common.{◌≡◌, ◌≤◌, ◌<◌, ◌^◌, length}
use Rattle.std.specs.Prelude.{option_map}
use Rattle.range_scan.specs.Scanned.{HasColumns}
use Rattle.loader_reply.specs.Batch.{names_behind, names_of}
use Rattle.loader_reply.specs.Reading.{schema_of}
use Rattle.loader_reply.specs.SoFar.{IsSoFar, LeavesNone}
use Rattle.loader_reply.proofs.loader.Loader.load_files.Given as goal

abbrev pub invariant-loop-behind : goal.invariant-loop-behind
invariant-loop-behind g l = record {
  so_far : IsSoFar l.self.options.now l.files.sniffed (g.S.Source.held l.fn.source) (names_of l.several l.word) (names_behind (option_map (λ text. text.now) l.behind)) l.number l.files.load;
  later : 0 < l.number;
  columns : HasColumns (schema_of l.self.options.now l.files.sniffed);
  few : length l.files.sniffed.names < 2 ^ 63;
  left : LeavesNone (g.S.Source.held l.fn.source) (g.S.Source.left l.source);
  held : g.S.Source.held l.source ≡ g.S.Source.held l.fn.source;
  count : g.S.Source.faults l.fn.source ≤ g.S.Source.faults l.source;
}

abbrev pub decreases-loop-behind : goal.decreases-loop-behind
decreases-loop-behind g l = length (names_behind (option_map (λ text. text.now) l.behind))
