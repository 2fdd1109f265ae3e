use Rattle.std.proofs.lemmas.Result.{on_ok_weaker}
use Rattle.db_writer.proofs.Truths.{truth_appended}
use Rattle.db_writer.proofs.row_writer.RowWriter.push_truth.Goals as goal

pub returns : goal.returns
returns c =
    let s = c.self.inside in
    record {
      ok = on_ok_weaker c.push_truth.result
          (λ out. truth_appended c.args.self.now s.leaves s.next s.types.text s.body.text c.push_truth.new.types.text c.args.truth c.self.view_is c.push_truth.ensures.none out)
          c.push_truth.ensures.types;
    }
