use Rattle.std.proofs.Common.{◌≡◌, ℕ, ◌*◌, ◌%◌, ◌^◌, Bool, true, false, cond, refl, ap, ◌∙◌}
use Rattle.std.specs.Int.{bit_at}
use lib.Bits.{bit_or}
use mir.Val.{bool_byte}
use Rattle.quote_automaton.proofs.CountedBits.{behind_is}
use Rattle.quote_automaton.proofs.quote_bits.behind.Goals as goal

byte_is : (b : Bool) → bool_byte b ≡ cond b 1 0
byte_is true = refl
byte_is false = refl

pub returns : goal.returns
returns c i lt = ap (λ (n : ℕ). bit_at (bit_or (c.args.mask * 2 % 2 ^ 64) n) i) (c.from.ensures ∙ byte_is c.args.first) ∙ behind_is c.args.first c.args.mask i lt
