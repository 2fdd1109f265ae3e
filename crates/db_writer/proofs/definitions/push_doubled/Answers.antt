use Rattle.db_writer.proofs.DefinitionTexts.{byte-appended}
use Rattle.db_writer.proofs.definitions.push_doubled.Goals as goal

pub loop-byte-preserved : goal.loop-byte-preserved
loop-byte-preserved c =
    byte-appended c.args.into.now.items c.loop-byte.into.items c.push_byte.new.into.items c.args.name.now c.loop-byte.byte-index c.loop-byte-test.true c.loop-byte.invariant
    c.in_ok-push_byte.ensures
