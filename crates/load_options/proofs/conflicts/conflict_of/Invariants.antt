use Rattle.std.proofs.Common.{◌≡◌, map, drop, string_bytes}
use Rattle.std.specs.List.{find}
use Rattle.load_options.specs.declared.conflict.TheConstants.{CONFLICTS}
use Rattle.load_options.specs.Conflicts.{conflict_of, holds}
use Rattle.load_options.proofs.conflicts.conflict_of.Given as goal

-- none so far holds
abbrev pub invariant-loop-conflict : goal.invariant-loop-conflict
invariant-loop-conflict l =
    let words = map string_bytes l.words in
    find (holds l.command words l.options) (drop l.conflict-index CONFLICTS) ≡ conflict_of l.command words l.options
