use Rattle.std.proofs.Common.{◌≡◌, take}
use Rattle.column_taps.specs.TextColumns.{texts_among}
use Rattle.column_taps.proofs.text_columns.text_columns.Given as goal

abbrev pub invariant-loop-place : goal.invariant-loop-place
invariant-loop-place l = l.found.items ≡ texts_among 0 (take l.place l.columns)
