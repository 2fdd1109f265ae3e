use Rattle.std.proofs.Common.{◌≡◌, ◌+◌, ◌≤◌, length, drop}
use Rattle.npz_writer.specs.Keys.{key_text}
use Rattle.npz_writer.proofs.long_keys.is_long.Given as goal

-- with what is left it is the length, and it isn't too long so far
abbrev pub invariant-loop-byte : goal.invariant-loop-byte
invariant-loop-byte l = record {
  all : l.length + length (key_text (drop l.byte-index l.name)) ≡ length (key_text l.name);
  short : l.length ≤ 65500;
}
