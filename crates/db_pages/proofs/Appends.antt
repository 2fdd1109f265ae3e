-- Bytes that are appended one after another.
use Rattle.std.proofs.Common.{◌≡◌, ℕ, List, [], ◌++◌, ◌∙◌, ap, sym, append_assoc, append-nil}

pub two_behind : (old first second mid new : List ℕ) → mid ≡ old ++ first → new ≡ mid ++ second → new ≡ old ++ (first ++ second)
two_behind old first second mid new one two = two ∙ ap (λ xs. xs ++ second) one ∙ append_assoc old first second

pub three_behind : (old first second third mid more new : List ℕ) → mid ≡ old ++ first → more ≡ mid ++ second → new ≡ more ++ third →
    new ≡ old ++ (first ++ (second ++ third))
three_behind old first second third mid more new one two three =
    two_behind old first (second ++ third) mid new one (two_behind mid second third more new two three)

-- what was appended piece by piece to nothing
pub five_behind : (none p q r s t a b c d e : List ℕ) → none ≡ [] → a ≡ none ++ p → b ≡ a ++ q → c ≡ b ++ r → d ≡ c ++ s → e ≡ d ++ t →
    e ≡ p ++ (q ++ (r ++ (s ++ (t ++ []))))
five_behind none p q r s t a b c d e empty one two three four five =
    two_behind none p (q ++ (r ++ (s ++ t))) a e one (two_behind a q (r ++ (s ++ t)) b e two (two_behind b r (s ++ t) c e three (two_behind c s t d e four five)))
    ∙ ap (λ xs. xs ++ (p ++ (q ++ (r ++ (s ++ t))))) empty
    ∙ ap (λ xs. p ++ (q ++ (r ++ (s ++ xs)))) (sym (append-nil t))

pub from_nothing : (none first rest mid new : List ℕ) → none ≡ [] → mid ≡ none ++ first → new ≡ mid ++ rest → new ≡ first ++ rest
from_nothing none first rest mid new empty one two = two ∙ ap (λ xs. xs ++ rest) (one ∙ ap (λ xs. xs ++ first) empty)
