use Rattle.std.proofs.Common.{◌≡◌, ◌++◌, drop}
use Rattle.load_options.proofs.nulls.other_texts.Given as goal

-- the texts so far, and those that are left
abbrev pub invariant-loop-at : goal.invariant-loop-at
invariant-loop-at l = l.others ++ drop l.at l.texts ≡ drop 1 l.texts
