use Rattle.std.proofs.Common.{◌<◌, sym, ap, ◌∙◌, Some, subst}
use Rattle.value_types.proofs.WordDigits.{spelled_below}
use Rattle.value_types.proofs.WordTexts.{behind_zeros, IsWord-behind_zeros, natural-digits, natural-others}
use Rattle.value_types.proofs.words.natural.Goals as goal

pub returns-then-are_digits-clause-value : goal.returns-then-are_digits-clause-value
returns-then-are_digits-clause-value c text long begins =
    let k = c.args.count in
    let worths = IsWord-behind_zeros text begins.0 k long c.requires.few.0 c.requires.few.1 begins.1 in
    let is = c.worths-digits.ensures text long begins in
    let digits = sym (c.are_digits.ensures (behind_zeros k text) worths is) ∙ c.if-are_digits.true in
    ap Some (c.number.ensures (behind_zeros k text) worths digits is) ∙ natural-digits text begins.0 k long c.requires.few.0 c.requires.few.1 begins.1 digits

pub returns-then-are_digits-clause-small : goal.returns-then-are_digits-clause-small
returns-then-are_digits-clause-small c text long begins =
    let k = c.args.count in
    let worths = IsWord-behind_zeros text begins.0 k long c.requires.few.0 c.requires.few.1 begins.1 in
    let is = c.worths-digits.ensures text long begins in
    let digits = sym (c.are_digits.ensures (behind_zeros k text) worths is) ∙ c.if-are_digits.true in
    subst (λ n. n < 100000000) (sym (c.number.ensures (behind_zeros k text) worths digits is)) (spelled_below (behind_zeros k text) worths.0 digits)

pub returns-else-are_digits-clause-value : goal.returns-else-are_digits-clause-value
returns-else-are_digits-clause-value c text long begins =
    let k = c.args.count in
    let worths = IsWord-behind_zeros text begins.0 k long c.requires.few.0 c.requires.few.1 begins.1 in
    let others = sym (c.are_digits.ensures (behind_zeros k text) worths (c.worths-digits.ensures text long begins)) ∙ c.if-are_digits.false in
    natural-others text begins.0 k long c.requires.few.0 c.requires.few.1 begins.1 others
