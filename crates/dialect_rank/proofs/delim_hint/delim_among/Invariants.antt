use Rattle.std.proofs.Common.{◌≡◌, drop}
use Rattle.std.specs.Prelude.{find}
use Rattle.dialect_rank.specs.DelimHint.{agrees_most}
use Rattle.dialect_rank.proofs.delim_hint.delim_among.Given as goal

-- the candidates that are left decide
abbrev pub invariant-loop-candidate : goal.invariant-loop-candidate
invariant-loop-candidate l = find (agrees_most l.delim l.scored) (drop l.candidate-index l.scored) ≡ find (agrees_most l.delim l.scored) l.scored
