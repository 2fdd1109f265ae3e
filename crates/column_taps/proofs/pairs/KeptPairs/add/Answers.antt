use Rattle.std.proofs.Common.{◌++◌, ap, sym, refl, ◌∙◌}
use Rattle.column_taps.specs.KeptPairs.{pairs_in}
use Rattle.column_taps.specs.Pairs.{pairs_and}
use Rattle.column_taps.proofs.KeySteps.{key_added, key_there, none_added}
use Rattle.column_taps.proofs.pairs.KeptPairs.add.Goals as goal

pub returns-then-is_remembered-clause-ok : goal.returns-then-is_remembered-clause-ok
returns-then-is_remembered-clause-ok c = none_added (pairs_in c.args.self.now) c.args.column c.args.text.now (c.is_remembered.ensures c.if-is_remembered.true)

pub returns-in-Some-clause-ok : goal.returns-in-Some-clause-ok
returns-in-Some-clause-ok c =
    c.remember.ensures
    ∙ key_there _ (λ a b. refl) (record { column = c.args.column; text = c.extend_from_slice.new.self }) c.make_places.new.self.keys.keys c.args.text.now (sym c.in-Some.ensures.found)
    (c.in_ok-extend_from_slice.ensures.items ∙ ap (λ xs. xs ++ c.args.text.now) c.clear.ensures.items)
    ∙ ap (λ pairs. pairs_and pairs c.args.column c.args.text.now) c.in_ok-make_places.ensures

pub returns-clause-ok : goal.returns-clause-ok
returns-clause-ok c =
    key_added _ (λ a b. refl) (record { column = c.args.column; text = c.in_ok-text.text }) c.remember-2.new.self.keys.keys c.insert.new.self.keys c.args.text.now c.in_ok-insert.ensures.keys
    (c.in_ok-text.ensures.items_if_clones_equal (λ x y same. same))
    ∙ ap (λ pairs. pairs_and pairs c.args.column c.args.text.now) (c.remember-2.ensures ∙ c.in_ok-make_places.ensures)
