use Rattle.std.proofs.Common.{ℕ, ◌+◌, ◌<◌, ◌≤◌, Bool, List, length, sym, ◌∙◌, ap, subst, arith}
use Rattle.std.specs.Prelude.{unwrap_or}
use Rattle.csv_sniffer.specs.ColumnNames.{is_key, with_number, IsTakenTo}
use Rattle.csv_sniffer.proofs.NameSteps.{first_behind, none_behind, one_more, noted}
use Rattle.csv_sniffer.proofs.detected_names.first_free.Goals as goal

pub loop-tried-init : goal.loop-tried-init
loop-tried-init c =
    let keys = c.args.taken.now.keys in
    let start = c.unwrap_or-start.ensures ∙ ap (λ o. unwrap_or o 0) (c.copied.ensures ∙ c.get.ensures.value) in record {
      tried = subst (IsTakenTo keys (λ key. key.items) c.args.name.items) (sym start) (c.requires.numbers c.args.name);
      noted = c.requires.numbers;
    }

pub returns-then-not-contains-2-clause-value : goal.returns-then-not-contains-2-clause-value
returns-then-not-contains-2-clause-value c =
    let keys = c.args.taken.now.keys in
    let is_taken : List ℕ → Bool = is_key keys (λ key. key.items) in
    let tried = c.loop-tried.tried in
    let within : tried < length keys = omega (arith, c.loop-tried-test.true, c.len-tried-end.ensures.len) in
    let name = ap is_taken (sym c.as_slice.ensures.value) ∙ sym c.contains.ensures ∙ c.if-not-contains.false in
    let other = ap is_taken (sym c.as_slice-in-loop-tried.ensures.value) ∙ sym c.contains-in-loop-tried.ensures ∙ c.if-not-contains-2.true in
    let numbered = c.in_ok-other.ensures ∙ ap (λ n. with_number n (tried + 1)) c.deref.ensures.value in
    first_behind (λ key. key.items) keys c.args.name.items tried c.in_ok-other.other.items within c.loop-tried.invariant.tried name numbered other

pub returns-then-not-contains-2-clause-numbers : goal.returns-then-not-contains-2-clause-numbers
returns-then-not-contains-2-clause-numbers c =
    noted (λ key. key.items) c.args.taken.now.keys c.loop-tried.numbers.entries c.insert.new.self.entries c.args.name c.loop-tried.tried c.loop-tried.invariant.tried
    c.in_ok-insert.ensures.updates.0 c.loop-tried.invariant.noted

pub loop-tried-preserved : goal.loop-tried-preserved
loop-tried-preserved c =
    let keys = c.args.taken.now.keys in
    let is_taken : List ℕ → Bool = is_key keys (λ key. key.items) in
    let tried = c.loop-tried.tried in
    let within : tried < length keys = omega (arith, c.loop-tried-test.true, c.len-tried-end.ensures.len) in
    let other = ap is_taken (sym c.as_slice-in-loop-tried.ensures.value) ∙ sym c.contains-in-loop-tried.ensures ∙ c.if-not-contains-2.false in
    let numbered = c.in_ok-other.ensures ∙ ap (λ n. with_number n (tried + 1)) c.deref.ensures.value in record {
      tried = one_more (λ key. key.items) keys c.args.name.items tried c.in_ok-other.other.items within c.loop-tried.invariant.tried numbered other;
      noted = c.loop-tried.invariant.noted;
    }

pub returns-clause-value : goal.returns-clause-value
returns-clause-value c =
    let keys = c.args.taken.now.keys in
    let is_taken : List ℕ → Bool = is_key keys (λ key. key.items) in
    let tried = c.loop-tried.tried in
    let end : length keys ≤ tried = omega (arith, c.loop-tried-test.false, c.len-tried-end.ensures.len) in
    let name = ap is_taken (sym c.as_slice.ensures.value) ∙ sym c.contains.ensures ∙ c.if-not-contains.false in
    none_behind (λ key. key.items) keys c.args.name.items tried end c.loop-tried.invariant.tried name
