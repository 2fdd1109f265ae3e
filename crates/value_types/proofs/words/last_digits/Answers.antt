use Rattle.std.proofs.Common.{◌≡◌, ◌-◌, ◌∙◌, ℕ, List, length, drop, arith, length-drop}
use Rattle.value_types.proofs.WordTexts.{begins_at_end}
use Rattle.value_types.proofs.words.last_digits.Goals as goal

pub returns-clause-value : goal.returns-clause-value
returns-clause-value c =
    let text : List ℕ = c.args.text.now in
    let from : ℕ = length text - c.args.count in
    let long : length (drop from text) ≡ c.args.count = length-drop from text ∙ omega (arith, c.requires.few.1) in
    let begins = begins_at_end text c.args.count c.word_at.result c.requires.few.1 c.requires.long (λ k lt. (c.type_inv.text k).fits) c.word_at.ensures in
    c.natural.ensures.value (drop from text) long begins

pub returns-clause-small : goal.returns-clause-small
returns-clause-small c =
    let text : List ℕ = c.args.text.now in
    let from : ℕ = length text - c.args.count in
    let long : length (drop from text) ≡ c.args.count = length-drop from text ∙ omega (arith, c.requires.few.1) in
    let begins = begins_at_end text c.args.count c.word_at.result c.requires.few.1 c.requires.long (λ k lt. (c.type_inv.text k).fits) c.word_at.ensures in
    c.natural.ensures.small (drop from text) long begins
