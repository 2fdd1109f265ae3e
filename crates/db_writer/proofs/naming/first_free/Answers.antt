use Rattle.std.proofs.Common.{◌≡◌, ℕ, Bool, List, ◌+◌, ◌∙◌, sym, ap, subst, true, arith}
use Rattle.std.specs.Prelude.{unwrap_or}
use Rattle.csv_sniffer.specs.ColumnNames.{with_number}
use Rattle.db_writer.specs.Naming.{IsTakenTo, folded, is_taken}
use Rattle.db_writer.proofs.NamesApart.{begins, is_free, none_is_free, not_free, noted, one_more, skipped, taken-folded}
use Rattle.db_writer.proofs.naming.first_free.Goals as goal

pub loop-tried-init : goal.loop-tried-init
loop-tried-init c =
    let keys = c.args.taken.now.keys in
    let name = c.args.name.items in
    let key = c.in_ok-key.key in
    let is_taken_now : List ℕ → Bool = is_taken keys (λ key. key.items) in
    let start = c.unwrap_or-start.ensures ∙ ap (λ o. unwrap_or o 0) (c.copied.ensures ∙ c.get.ensures.value) in
    let known : IsTakenTo keys (λ key. key.items) key.items c.unwrap_or-start.result = subst (IsTakenTo keys (λ key. key.items) key.items) (sym start) (c.requires.numbers key) in
    let is : key.items ≡ folded name = c.in_ok-key.ensures ∙ ap folded c.deref-2.ensures.value in
    let taken : is_taken_now name ≡ true = ap is_taken_now (sym c.deref.ensures.value) ∙ sym c.in_ok-is_taken.ensures ∙ c.if-not-branch.false in
    record {
      free = skipped is_taken_now name c.args.count c.unwrap_or-start.result (λ n low. taken-folded (λ key. key.items) keys name key.items (n + 1) is ∙ known n low) ∙ begins is_taken_now name c.args.count taken;
      tried = known;
      noted = c.requires.numbers;
    }

pub returns-then-not-branch-2-clause-value : goal.returns-then-not-branch-2-clause-value
returns-then-not-branch-2-clause-value c =
    let keys = c.args.taken.now.keys in
    let tried = c.loop-tried.tried in
    let numbered = c.in_ok-other.ensures ∙ ap (λ n. with_number n (tried + 1)) c.deref-in-loop-tried.ensures.value in
    let free = ap (is_taken keys (λ key. key.items)) (sym c.deref-in-loop-tried-2.ensures.value) ∙ sym c.in_ok-is_taken-2.ensures ∙ c.if-not-branch-2.true in
    is_free (is_taken keys (λ key. key.items)) c.args.name.items c.args.count tried c.in_ok-other.other.items c.loop-tried-test.true numbered free ∙ c.loop-tried.invariant.free

pub returns-then-not-branch-2-clause-numbers : goal.returns-then-not-branch-2-clause-numbers
returns-then-not-branch-2-clause-numbers c =
    noted (λ key. key.items) c.args.taken.now.keys c.loop-tried.numbers.entries c.insert.new.self.entries c.in_ok-key.key c.loop-tried.tried c.loop-tried.invariant.tried
    c.in_ok-insert.ensures.updates.0 c.loop-tried.invariant.noted

pub loop-tried-preserved : goal.loop-tried-preserved
loop-tried-preserved c =
    let keys = c.args.taken.now.keys in
    let tried = c.loop-tried.tried in
    let name = c.args.name.items in
    let key = c.in_ok-key.key in
    let is : key.items ≡ folded name = c.in_ok-key.ensures ∙ ap folded c.deref-2.ensures.value in
    let numbered = c.in_ok-other.ensures ∙ ap (λ n. with_number n (tried + 1)) c.deref-in-loop-tried.ensures.value in
    let taken = ap (is_taken keys (λ key. key.items)) (sym c.deref-in-loop-tried-2.ensures.value) ∙ sym c.in_ok-is_taken-2.ensures ∙ c.if-not-branch-2.false in
    record {
      free = sym (not_free (is_taken keys (λ key. key.items)) name c.args.count tried c.in_ok-other.other.items c.loop-tried-test.true numbered taken) ∙ c.loop-tried.invariant.free;
      tried = one_more (λ key. key.items) keys name key.items c.in_ok-other.other.items tried is c.loop-tried.invariant.tried numbered taken;
      noted = c.loop-tried.invariant.noted;
    }

pub returns-clause-value : goal.returns-clause-value
returns-clause-value c =
    sym (none_is_free (is_taken c.args.taken.now.keys (λ key. key.items)) c.args.name.items c.args.count c.loop-tried.tried (omega (arith, c.loop-tried-test.false))) ∙ c.loop-tried.invariant.free
