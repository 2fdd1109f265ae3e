use Rattle.std.proofs.Common.{◌≤◌, All, length}
use Rattle.zip_archive.specs.declared.entry.Entry.{Entry}
use Rattle.part_tests.proofs.tests.zip_archive_bytes.archive.Given as goal

abbrev pub invariant-loop-name : goal.invariant-loop-name
invariant-loop-name l = All (λ (entry : Entry). length entry.name ≤ 65535) l.entries.items
