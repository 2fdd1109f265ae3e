use Rattle.std.proofs.Common.{sym, ap, ◌∙◌, List, map, ℕ}
use Rattle.value_types.specs.declared.types.Value.{Value}
use Rattle.column_profile.specs.Kept.{value_of}
use Rattle.column_profile.specs.Tally.{Apart}
use Rattle.column_profile.specs.Values.{same_value}
use Rattle.column_profile.proofs.ApartSteps.{key_added, key_there}
use Rattle.column_profile.proofs.KeySteps.{same_keys}
use Rattle.column_profile.proofs.different.Different.add_value.Goals as goal

pub returns-then-contains : goal.returns-then-contains
returns-then-contains c =
    let texts : List (List ℕ) = map (λ text. text.items) c.args.self.now.texts.keys in
    let apart : List Value → Apart = λ kept. record { values = kept; texts = texts } in
    ap apart (key_there _ same_value value_of same_keys c.key_of-key.result c.args.self.now.values.keys c.args.value (sym c.contains.ensures ∙ c.if-contains.true) c.key_of-key.ensures)

pub returns : goal.returns
returns c =
    let texts : List (List ℕ) = map (λ text. text.items) c.args.self.now.texts.keys in
    let apart : List Value → Apart = λ kept. record { values = kept; texts = texts } in
    ap apart (key_added _ same_value value_of same_keys c.key_of-key.result c.args.self.now.values.keys c.insert.new.self.keys c.args.value c.in_ok-insert.ensures.keys c.key_of-key.ensures)
