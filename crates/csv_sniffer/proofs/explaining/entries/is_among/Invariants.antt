use Rattle.std.proofs.Common.{◌≡◌, drop}
use Rattle.load_options.specs.Texts.{is_among}
use Rattle.csv_sniffer.proofs.explaining.entries.is_among.Given as goal

-- the names that are left decide
abbrev pub invariant-loop-place : goal.invariant-loop-place
invariant-loop-place l = is_among (drop l.place l.names) l.name ≡ is_among l.names l.name
