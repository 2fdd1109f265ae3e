-- Loops over all columns.
use Rattle.std.proofs.Common.{◌≡◌, ◌≢◌, ℕ, ◌+◌, ◌<◌, ◌≤◌, refl, sym, ◌∙◌, subst, arith, List, length, get_or, set, inl, inr}
use Rattle.std.proofs.lemmas.Bool.{cases_eq, cases_lt}
use Rattle.std.proofs.lemmas.List.{length-set, get_or_default, get_or-set_same, get_or-set_other}
use Rattle.column_store.specs.declared.column.Column.{Column}
use Rattle.column_store.specs.ColumnChanges.{EachColumn}

-- the columns before a place are changed, the others are as they were
pub record SoFar (Changed : ℕ → Column → Column → Type 0) (place : ℕ) (old now : List Column) : Type 0 where
  pub count : length now ≡ length old
  pub before : (number : ℕ) (other : Column) → number < place → number < length old → Changed number (get_or old number other) (get_or now number other)
  pub behind : (number : ℕ) (other : Column) → place ≤ number → get_or now number other ≡ get_or old number other

module _ (Changed : ℕ → Column → Column → Type 0) where
  pub one_more : (place : ℕ) (old now : List Column) (was column : Column) → SoFar Changed place old now → place < length now →
      Changed place (get_or now place was) column → SoFar Changed (place + 1) old (set now place column)
  one_more place old now was column so within changed = record {
    count = length-set now place column ∙ so.count;
    before = λ number other below inside. elim (cases_eq number place) [
      | inl e ↦ subst (λ n. Changed n (get_or old n other) (get_or (set now place column) n other)) (sym e)
          (subst (λ c. Changed place (get_or old place other) c) (sym (get_or-set_same now place column other within))
          (subst (λ c. Changed place c column) (get_or_default now place was other within ∙ so.behind place other (omega arith)) changed))
      | inr apart ↦ subst (λ c. Changed number (get_or old number other) c) (sym (get_or-set_other now place number column other apart))
          (so.before number other (omega (arith, apart, below)) inside)
    ];
    behind = λ number other low. get_or-set_other now place number column other (let apart : number ≢ place = omega (arith, low) in apart)
        ∙ so.behind number other (omega (arith, low));
  }

  -- where nothing is a change too
  pub those_at_least : (place : ℕ) (old now : List Column) → SoFar Changed place old now → ((number : ℕ) (column : Column) → Changed number column column) → EachColumn Changed old now
  those_at_least place old now so same = record {
    count = so.count;
    each = λ number other within. elim (cases_lt number place) [
      | inl below ↦ so.before number other below within
      | inr low ↦ subst (λ c. Changed number (get_or old number other) c) (sym (so.behind number other low)) (same number (get_or old number other))
    ];
  }

pub so_far_weaker : (Strong Weak : ℕ → Column → Column → Type 0) → ((number : ℕ) (old new : Column) → Strong number old new → Weak number old new) →
    (place : ℕ) (old now : List Column) → SoFar Strong place old now → SoFar Weak place old now
so_far_weaker Strong Weak weaker place old now so = record {
  count = so.count;
  before = λ number other below within. weaker number (get_or old number other) (get_or now number other) (so.before number other below within);
  behind = so.behind;
}

-- a column is set
pub set_each : (Changed : Column → Column → Type 0) → ((column : Column) → Changed column column) → (columns : List Column) (place : ℕ) (was column : Column) → was ≡ get_or columns place was → place < length columns →
    Changed was column → EachColumn (λ _. Changed) columns (set columns place column)
set_each Changed same columns place was column at within changed =
    those_at_least (λ _. Changed) (place + 1) columns (set columns place column)
    (one_more (λ _. Changed) place columns columns was column (record { count = refl; before = λ number other _ _. same (get_or columns number other); behind = λ _ _ _. refl }) within
    (subst (λ c. Changed c column) at changed))
    (λ _. same)
