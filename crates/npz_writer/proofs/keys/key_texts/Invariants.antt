use Rattle.std.proofs.Common.{◌≡◌, ◌++◌, map, drop}
use Rattle.npz_writer.specs.Keys.{key_text}
use Rattle.npz_writer.proofs.keys.key_texts.Given as goal

-- the texts so far, and those that are left
abbrev pub invariant-loop-column : goal.invariant-loop-column
invariant-loop-column l = l.texts ++ map key_text (drop l.column l.names) ≡ map key_text l.names
