use Rattle.std.proofs.Common.{subst}
use Rattle.std.specs.Prelude.{IfOk}
use Rattle.loader_reply.specs.Loading.{IsFinding}
use Rattle.loader_reply.proofs.sniffed_head.sniff_kept.Goals as goal

pub returns-clause-ok : goal.returns-clause-ok
returns-clause-ok c = subst (λ kept. IfOk c.sniff_bytes.result (IsFinding c.args.options.now kept)) c.bytes.ensures c.sniff_bytes.ensures.ok
