-- Windows come in hand one after another.
use Rattle.std.proofs.Common.{◌≡◌, ℕ, zero, suc, ◌<◌, List, [], ◌∷◌, ◌++◌, length, map, All, refl, sym, ap, ◌∙◌, subst, arith}
use Rattle.std.specs.Prelude.{Some}
use Rattle.std.proofs.lemmas.List.Elements.{All-head, All-pop, All-tail}
use mathlib.Core.Option.{some, some-ne-none}
use lib.ListN.{get_elem?}
use Rattle.range_scan.specs.declared.context.Context.{Context}
use Rattle.pipe_load.specs.declared.layout.Layout.{Layout}
use Rattle.pipe_load.specs.declared.scanner.Kept.{Kept}
use Rattle.pipe_load.specs.declared.window.Window.{Window}
use Rattle.pipe_load.specs.PassViews.{IsOneOf}
use Rattle.pipe_load.specs.Scanning.{guessed_parts, HasParts}
use Rattle.pipe_load.proofs.Lists.{at_more}

-- facts of all entries but the last one, of the last one, and of those behind some
pub all_but_last : {A : Type 0} (P : A → Type 0) (xs : List A) (x : A) → All P (xs ++ x ∷ []) → All P xs
all_but_last P xs x h = (All-pop P (xs ++ x ∷ []) xs (Some x) refl h).0

pub of_last : {A : Type 0} (P : A → Type 0) (xs : List A) (x : A) → All P (xs ++ x ∷ []) → P x
of_last P xs x h = (All-pop P (xs ++ x ∷ []) xs (Some x) refl h).1

pub all_behind : {A : Type 0} (P : A → Type 0) (xs ys : List A) → All P (xs ++ ys) → All P ys
all_behind P [] ys h = h
all_behind P (x ∷ xs) ys h = all_behind P xs ys (All-tail P x (xs ++ ys) h)

pub all_of_map : {A B : Type 0} (P : B → Type 0) (f : A → B) (xs : List A) → All P (map f xs) → All (λ x. P (f x)) xs
all_of_map P f [] h k d lt = absurd (let never : ⊥ = omega (arith, lt) in never)
all_of_map P f (x ∷ xs) h zero d lt = All-head P (f x) (map f xs) h
all_of_map P f (x ∷ xs) h (suc k) d lt = all_of_map P f xs (All-tail P (f x) (map f xs) h) k d (let under : k < length xs = omega (arith, lt) in under)

-- a place of an entry is within a list
pub at_within : {A : Type 0} (xs : List A) (k : ℕ) (x : A) → get_elem? xs k ≡ some x → k < length xs
at_within [] k x e = absurd (some-ne-none x (sym e))
at_within (y ∷ xs) zero x e = omega arith
at_within (y ∷ xs) (suc k) x e = let under : k < length xs = at_within xs k x e in omega (arith, under)

-- a window that stands with no parts
pub no_parts : (context : Context) (l : Layout) (kept : Kept) → kept.parts.items ≡ [] → HasParts context l kept
no_parts context l kept e = record { is = e ∙ ap (guessed_parts context l kept.window) (sym (ap length e)) }

-- a window that was put is one of those that were made
pub put_is_made : (put made more : List Window) (w : Window) → made ≡ put ++ more → IsOneOf put w → IsOneOf made w
put_is_made put made more w is one = subst (λ ws. IsOneOf ws w) (sym is) (at_more put more w.number w one)
