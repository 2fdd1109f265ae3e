use Rattle.std.proofs.Common.{◌≡◌, map, drop}
use Rattle.load_options.specs.OptionTable.{rule_named}
use Rattle.load_options.specs.Table.{rule_of}
use Rattle.load_options.proofs.table.allowed_by.Given as goal

-- none so far has the name
abbrev pub invariant-loop-rule : goal.invariant-loop-rule
invariant-loop-rule l = rule_named (map rule_of (drop l.rule-index l.rules)) l.name ≡ rule_named (map rule_of l.rules) l.name
