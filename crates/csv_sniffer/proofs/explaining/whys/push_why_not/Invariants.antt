use Rattle.std.proofs.Common.{◌≡◌, drop}
use Rattle.std.specs.Prelude.{find, not}
use Rattle.value_types.specs.OfType.{is_of_type}
use Rattle.csv_sniffer.specs.declared.explaining.entries.Entry.{Entry}
use Rattle.csv_sniffer.proofs.explaining.whys.push_why_not.Given as goal

-- the values that are left decide
abbrev pub invariant-loop-entry : goal.invariant-loop-entry
invariant-loop-entry l = record {
  same : l.into.items ≡ l.fn.into.items;
  found : find (λ (e : Entry). not (is_of_type e.value l.ty)) (drop l.entry-index l.column.entries) ≡ find (λ (e : Entry). not (is_of_type e.value l.ty)) l.column.entries;
}
