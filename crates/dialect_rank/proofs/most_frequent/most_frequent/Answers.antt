use Rattle.std.proofs.Common.{subst}
use Rattle.dialect_rank.specs.Frequency.{IsGreatest}
use Rattle.dialect_rank.specs.Shape.{field_counts}
use Rattle.dialect_rank.proofs.Frequencies.{greatest-is}
use Rattle.dialect_rank.proofs.most_frequent.most_frequent.Goals as goal

pub returns : goal.returns
returns c =
    greatest-is (field_counts c.args.rows.now) c.in_ok-frequencies.field-0.items c.greatest.result (λ n. c.in_ok-frequencies.ensures n)
    (subst (λ counts. IsGreatest counts c.greatest.result) c.deref.ensures.value c.greatest.ensures)
