use Rattle.std.proofs.Common.{◌≤◌, ℕ, Option, None, Some, IfSome, arith}
use Rattle.std.specs.Prelude.{unwrap_or}
use Rattle.std.specs.Int.{IsInRange}
use Rattle.load_options.specs.declared.limits.TheConstants.{SIZE}
use Rattle.part_cuts.specs.Within.{most_size}
use Rattle.loader_reply.proofs.loader.Loader.cut_rule.Goals as goal

size_within : (given : Option ℕ) → IfSome given (IsInRange SIZE.least SIZE.most) → (1 ≤ unwrap_or given SIZE.default) × (unwrap_or given SIZE.default ≤ most_size)
size_within None all = (omega arith, omega arith)
size_within (Some size) range = (range.0, range.1)

pub returns-clause-within : goal.returns-clause-within
returns-clause-within g c =
    let size = size_within c.args.self.now.options.now.size c.requires.accepted.size in
    record { some = omega (arith, c.unwrap_or.ensures, size.0); most = omega (arith, c.unwrap_or.ensures, size.1) }
