use Rattle.std.proofs.Common.{◌++◌, List, ℕ, take, ap, ◌∙◌}
use Rattle.std.proofs.lemmas.Result.{on_ok_weaker}
use Rattle.db_records.proofs.LastBytes.{last_bytes}
use Rattle.db_records.proofs.values.push_last_bytes.Goals as goal

pub returns : goal.returns
returns c =
    let old : List ℕ = c.args.body.now.text in
    record {
      ok = on_ok_weaker c.append_front.result
          (λ out. out ∙ ap (λ xs. old ++ take c.args.size xs) c.to_be_bytes-bytes.ensures ∙ ap (λ xs. old ++ xs) (last_bytes c.args.size c.args.number c.requires))
          c.append_front.ensures.ok;
    }
