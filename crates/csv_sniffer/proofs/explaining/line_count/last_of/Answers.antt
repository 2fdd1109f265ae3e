use Rattle.std.proofs.Common.{List, ℕ, length, ap, ◌∙◌, arith}
use Rattle.std.specs.Prelude.{None}
use Rattle.std.specs.List.{last_or}
use Rattle.std.proofs.lemmas.List.{take_all}
use Rattle.csv_sniffer.proofs.explaining.line_count.last_of.Goals as goal

pub returns : goal.returns
returns c = let bytes : List ℕ = c.args.bytes.now in c.byte_before.ensures ∙ ap (last_or None) (take_all (length bytes) bytes (omega arith))
