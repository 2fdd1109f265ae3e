use Rattle.std.proofs.Common.{◌≡◌, true, ap, sym, ◌∙◌}
use Rattle.std.specs.Str.{bytes_eq}
use Rattle.std.proofs.lemmas.Bool.{and_from, eq-eqb}
use Rattle.column_taps.specs.KeptPairs.{pair_of}
use Rattle.column_taps.specs.Pairs.{is_pair}
use Rattle.column_taps.proofs.KeySteps.{pair_at}
use Rattle.column_taps.proofs.pairs.KeptPairs.is_remembered.Goals as goal

pub returns-then-column-key : goal.returns-then-column-key
returns-then-column-key c equal =
    let key = c.in-Some-get_index.key.now in
    let text = c.args.text.now in
    let is : is_pair c.args.column text (pair_of key) ≡ true =
    and_from _ _ (eq-eqb c.args.column key.column c.if-column-key.true) (ap (bytes_eq text) (sym c.as_slice.ensures.value) ∙ sym c.eq.ensures ∙ equal) in
    pair_at c.args.column text c.args.self.now.keys.keys c.in-Some.place.now key (sym c.in-Some-get_index.ensures.key) is
