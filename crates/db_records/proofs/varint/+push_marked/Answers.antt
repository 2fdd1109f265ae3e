use Rattle.std.proofs.Common.{arith}
use Rattle.db_records.proofs.Varints.{marked-pushed}
use Rattle.db_records.proofs.varint.+push_marked.Goals as goal

pub returns-in_ok-append : goal.returns-in_ok-append
returns-in_ok-append t c =
    record { ok = marked-pushed c.args.into.now.text _ _ c.args.count c.args.value (omega arith) c.in_ok-push_marked.ensures.ok c.in_ok-append.ensures.ok }
