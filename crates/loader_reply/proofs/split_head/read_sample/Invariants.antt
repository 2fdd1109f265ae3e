use Rattle.std.proofs.Common.{◌≡◌, ◌+◌, ◌-◌, ◌≤◌, cond, length, true}
use Rattle.std.specs.Io.KnownBytes.{Consumes, IsAtEnd}
use Rattle.loader_reply.specs.declared.split_head.TheConstants.{HEAD_LIMIT}
use Rattle.loader_reply.proofs.split_head.read_sample.Given as goal

abbrev pub invariant-loop-held : goal.invariant-loop-held
invariant-loop-held g l = record {
  came : Consumes (g.S.Source.left l.fn.source) (g.S.Source.left l.source) l.held.bytes;
  within : length l.held.bytes ≤ HEAD_LIMIT + 1;
  short : l.held.ended ≡ true → length l.held.bytes ≤ HEAD_LIMIT;
  at_end : l.held.ended ≡ true → IsAtEnd (g.S.Source.left l.source);
  held : g.S.Source.held l.source ≡ g.S.Source.held l.fn.source;
  count : g.S.Source.faults l.fn.source ≤ g.S.Source.faults l.source;
}

abbrev pub decreases-loop-held : goal.decreases-loop-held
decreases-loop-held g l = cond l.held.ended 0 (HEAD_LIMIT + 2 - length l.held.bytes)
