use Rattle.std.proofs.Common.{List, ℕ, ◌+◌, drop, ap, arith, get_or}
use Rattle.std.proofs.lemmas.List.{drop_all}
use Rattle.npz_writer.specs.Keys.{key_byte, key_text}
use Rattle.npz_writer.proofs.Grown.{drop-here, made-all, made-more}
use Rattle.npz_writer.proofs.keys.key_text.Goals as goal

pub loop-byte-preserved : goal.loop-byte-preserved
loop-byte-preserved c =
    let name : List ℕ = c.args.name.now in
    let k : ℕ = c.loop-byte.byte-index in
    made-more c.loop-byte.text.items c.push_byte.new.text.items (key_byte (get_or name k 0)) (key_text (drop k name)) (key_text (drop (k + 1) name)) (key_text name)
    c.in_ok-push_byte.ensures (ap key_text (drop-here name k 0 c.loop-byte-test.true)) c.loop-byte.invariant

pub returns : goal.returns
returns c =
    let name : List ℕ = c.args.name.now in
    let k : ℕ = c.loop-byte.byte-index in
    made-all c.loop-byte.text.items (key_text (drop k name)) (key_text name) (ap key_text (drop_all k name (omega arith))) c.loop-byte.invariant
