use Rattle.std.proofs.Common.{◌++◌, ap, ◌∙◌, arith}
use Rattle.std.proofs.lemmas.List.{take-replicate}
use Rattle.std.proofs.lemmas.Result.{IfOk-weaker}
use Rattle.db_records.proofs.appending.push_zeros.Goals as goal

pub returns : goal.returns
returns c =
    record {
      ok = IfOk-weaker c.append.result _ _ (λ _ out. out ∙ ap (λ xs. c.args.into.now.items ++ xs) (take-replicate c.args.count 4096 0 (omega arith))) c.append.ensures.ok;
      err = c.append.ensures.err;
    }
