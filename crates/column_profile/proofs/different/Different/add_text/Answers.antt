use Rattle.std.proofs.Common.{refl, sym, ap, ◌∙◌, List, map, ℕ}
use Rattle.std.specs.Str.{bytes_eq}
use Rattle.value_types.specs.declared.types.Value.{Value}
use Rattle.column_profile.specs.Kept.{value_of}
use Rattle.column_profile.specs.Tally.{Apart}
use Rattle.column_profile.proofs.ApartSteps.{key_added, element_there}
use Rattle.column_profile.proofs.different.Different.add_text.Goals as goal

pub returns-then-contains : goal.returns-then-contains
returns-then-contains c =
    let values : List Value = map value_of c.args.self.now.values.keys in
    let apart : List (List ℕ) → Apart = λ kept. record { values = values; texts = kept } in
    ap apart (element_there _ bytes_eq (λ text. text.items) c.args.bytes.now (λ k. refl) c.args.self.now.texts.keys (sym c.contains.ensures ∙ c.if-contains.true))

pub returns : goal.returns
returns c =
    let values : List Value = map value_of c.args.self.now.values.keys in
    let apart : List (List ℕ) → Apart = λ kept. record { values = values; texts = kept } in
    ap apart (key_added _ bytes_eq (λ text. text.items) (λ a b. refl) c.in_ok-copy.copy c.args.self.now.texts.keys c.insert.new.self.keys c.args.bytes.now c.in_ok-insert.ensures.keys
    (c.in_ok-copy.ensures.items_if_clones_equal (λ x y same. same)))
