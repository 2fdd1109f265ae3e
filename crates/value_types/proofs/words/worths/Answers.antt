use Rattle.std.proofs.Common.{ℕ, ◌*◌, ◌-◌, ◌^◌, ◌%◌, bit_xor, ap, ◌∙◌}
use Rattle.value_types.proofs.WordTexts.{shifted_worths}
use Rattle.value_types.proofs.words.worths.Goals as goal

pub returns : goal.returns
returns c text long begins =
    ap (λ (n : ℕ). bit_xor n 0x3030303030303030 * 2 ^ (8 * (8 - c.args.count)) % 2 ^ 64) begins.2
    ∙ shifted_worths text begins.0 c.args.count long begins.1 c.requires.few.1
