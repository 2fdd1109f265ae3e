use Rattle.std.proofs.Common.{◌<◌, sym, ap, ◌∙◌, Some, subst}
use Rattle.value_types.proofs.WordDigits.{spelled_below}
use Rattle.value_types.proofs.WordTexts.{behind_zeros, IsWord-behind_zeros, natural-digits, tested}
use Rattle.value_types.proofs.words.front_number.Goals as goal

pub returns : goal.returns
returns c text long begins all =
    let k = c.args.count in
    let worths = IsWord-behind_zeros text begins.0 k long c.requires.few.0 c.requires.few.1 begins.1 in
    let digits = tested text begins.0 k long c.requires.few.0 c.requires.few.1 begins.1 ∙ all in
    let is = c.number.ensures (behind_zeros k text) worths digits (c.worths.ensures text long begins) in (
      sym (ap Some is ∙ natural-digits text begins.0 k long c.requires.few.0 c.requires.few.1 begins.1 digits),
      subst (λ n. n < 100000000) (sym is) (spelled_below (behind_zeros k text) worths.0 digits),
    )
