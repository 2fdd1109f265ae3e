use Rattle.std.proofs.Common.{◌≡◌, ℕ, ◌+◌, ◌<◌, true, false, cond, List, map, drop, length, get_or, Option, Some, sym, ◌∙◌, ap}
use Rattle.std.proofs.lemmas.List.{drop_more}
use Rattle.std.specs.Str.{bytes_eq}
use Rattle.std.proofs.lemmas.Slice.Eq.{bytes_eq-Decides}
use Rattle.load_options.specs.declared.table.OptionRule.{OptionRule}
use Rattle.load_options.specs.OptionTable.{OptionRule as Rule, rule_named, option_rule}
use Rattle.load_options.specs.Table.{rule_of, named, allows}
use Rattle.load_options.proofs.table.allowed_by.Goals as goal

-- the rules from a place on, by the one there
from_place : (rules : List OptionRule) (name n : List ℕ) (i : ℕ) (d : OptionRule) → i < length rules → n ≡ (get_or rules i d).0.now →
    rule_named (map rule_of (drop i rules)) name ≡ cond (bytes_eq n name) (Some (rule_of (get_or rules i d))) (rule_named (map rule_of (drop (i + 1) rules)) name)
from_place rules name n i d lt is =
    ap (λ rs. rule_named (map rule_of rs) name) (drop_more rules i d lt)
    ∙ ap (λ m. cond (bytes_eq m name) (Some (rule_of (get_or rules i d))) (rule_named (map rule_of (drop (i + 1) rules)) name)) (sym is)

other_rule : (rules : List OptionRule) (name n : List ℕ) (i : ℕ) (d : OptionRule) (r : Option Rule) → i < length rules → n ≡ (get_or rules i d).0.now → bytes_eq n name ≡ false →
    rule_named (map rule_of (drop i rules)) name ≡ r → rule_named (map rule_of (drop (i + 1) rules)) name ≡ r
other_rule rules name n i d r lt is other before =
    sym (from_place rules name n i d lt is ∙ ap (λ t. cond t (Some (rule_of (get_or rules i d))) (rule_named (map rule_of (drop (i + 1) rules)) name)) other) ∙ before

this_rule : (rules : List OptionRule) (name n : List ℕ) (i : ℕ) (d : OptionRule) (r : Option Rule) → i < length rules → n ≡ (get_or rules i d).0.now → bytes_eq n name ≡ true →
    rule_named (map rule_of (drop i rules)) name ≡ r → Some (named name (get_or rules i d).1) ≡ r
this_rule rules name n i d r lt is same before =
    ap (λ m. Some (option_rule m (allows (get_or rules i d).1))) (sym ((bytes_eq-Decides n name).0 same) ∙ is)
    ∙ sym (from_place rules name n i d lt is ∙ ap (λ t. cond t (Some (rule_of (get_or rules i d))) (rule_named (map rule_of (drop (i + 1) rules)) name)) same)
    ∙ before

pub loop-rule-preserved : goal.loop-rule-preserved
loop-rule-preserved c =
    other_rule c.args.rules.now c.args.name.now c.as_bytes.result.now c.loop-rule.rule-index _ _ c.loop-rule-test.true c.as_bytes.ensures.value (sym c.eq.ensures ∙ c.if-eq.false) c.loop-rule.invariant

pub returns-then-eq : goal.returns-then-eq
returns-then-eq c =
    this_rule c.args.rules.now c.args.name.now c.as_bytes.result.now c.loop-rule.rule-index _ _ c.loop-rule-test.true c.as_bytes.ensures.value (sym c.eq.ensures ∙ c.if-eq.true) c.loop-rule.invariant
