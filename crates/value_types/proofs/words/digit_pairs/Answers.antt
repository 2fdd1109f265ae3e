use Rattle.std.proofs.Common.{◌∙◌, sym, ap, Some, None, cond}
use Rattle.std.proofs.lemmas.Bool.{eq-eqb, ne_eqb}
use Rattle.value_types.specs.Words.{pairs_of, word_of, worths_by}
use Rattle.value_types.proofs.WordPairs.{picture_spells}
use Rattle.value_types.proofs.words.digit_pairs.Goals as goal

pub returns-then-carried-worths-eq0 : goal.returns-then-carried-worths-eq0
returns-then-carried-worths-eq0 c picture text is fits same =
    let law = picture_spells picture text fits c.args.naughts c.args.carries c.args.word is same in
    let follows = sym law.0 ∙ eq-eqb _ 0 c.if-carried-worths-eq0.true in
    ap Some (law.1 follows) ∙ sym (ap (λ t. cond t (Some (word_of (pairs_of (worths_by picture text)))) None) follows)

pub returns-else-carried-worths-eq0 : goal.returns-else-carried-worths-eq0
returns-else-carried-worths-eq0 c picture text is fits same =
    let law = picture_spells picture text fits c.args.naughts c.args.carries c.args.word is same in
    sym (ap (λ t. cond t (Some (word_of (pairs_of (worths_by picture text)))) None) (sym law.0 ∙ ne_eqb _ 0 c.if-carried-worths-eq0.false))
