-- The queue's rule holds at first, with nothing put.
use Rattle.std.proofs.Common.{◌≡◌, ℕ, zero, suc, [], ◌∷◌, sym, refl, subst, arith}
use Rattle.std.proofs.lemmas.List.Elements.{All-nil}
use Rattle.std.proofs.lemmas.Bool.Decides.{nat_tests}
use mathlib.Core.Option.{some, some-injective, some-ne-none}
use lib.ListN.{get_elem?}
use Rattle.pipe_load.specs.declared.pass_view.PassView.{PassView}
use Rattle.pipe_load.specs.PassViews.{caller_view}
use Rattle.pipe_load.specs.Rule.{Fits, IsRuled}

pub begins : IsRuled [] (caller_view ∷ [])
begins = (
  [],
  0,
  0,
  0,
  0,
  0,
  record {
    numbered = λ k w e. absurd (some-ne-none w (sym e));
    few = omega arith;
    holds = refl;
    once = λ k. grind (arith, nat_tests);
    all = grind arith;
    counted = grind arith;
    apart = grind arith;
    each = first;
  },
)
  where
    first : (id : ℕ) (v : PassView) → get_elem? (caller_view ∷ []) id ≡ some v → Fits [] 0 0 0 id v
    first zero v e = subst (λ (u : PassView). Fits [] 0 0 0 0 u) (some-injective caller_view v e) record { puts = λ _. (refl, refl, refl, refl); other = λ p. absurd (p refl); joined = λ _. (refl, refl); taken = All-nil _ }
    first (suc id) v e = absurd (some-ne-none v (sym e))
