use Rattle.std.proofs.Common.{◌≡◌, ◌++◌, codes}
use Rattle.std.specs.Prelude.{flat_map}
use Rattle.std.specs.List.{range_with_len}
use Rattle.report_text.specs.MadeText.{made_row}
use Rattle.report_text.proofs.made.make_text.Given as goal

abbrev pub invariant-loop-row : goal.invariant-loop-row
invariant-loop-row l = l.text.text ≡ codes "id,ok,day,note\n" ++ flat_map (made_row l.number) (range_with_len 0 l.row)
