use Rattle.std.proofs.Common.{◌≡◌, ◌++◌, take}
use Rattle.std.specs.Prelude.{flat_map}
use Rattle.csv_writer.specs.WrittenRejects.{reject_line}
use Rattle.csv_writer.proofs.rejects.push_stored.Given as goal

abbrev pub invariant-loop-index : goal.invariant-loop-index
invariant-loop-index l = l.into.text ≡ l.fn.into.text ++ flat_map reject_line (take l.index l.book.stored)
