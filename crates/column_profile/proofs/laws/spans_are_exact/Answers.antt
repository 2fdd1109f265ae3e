use Rattle.column_profile.proofs.SpanLaws.{spans_exact}
use Rattle.column_profile.proofs.laws.spans_are_exact.Goals as goal

pub returns : goal.returns
returns c = spans_exact
