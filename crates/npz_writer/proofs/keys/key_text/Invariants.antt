use Rattle.std.proofs.Common.{◌≡◌, ◌++◌, drop}
use Rattle.npz_writer.specs.Keys.{key_text}
use Rattle.npz_writer.proofs.keys.key_text.Given as goal

-- the text so far, and that of the bytes that are left
abbrev pub invariant-loop-byte : goal.invariant-loop-byte
invariant-loop-byte l = l.text.items ++ key_text (drop l.byte-index l.name) ≡ key_text l.name
