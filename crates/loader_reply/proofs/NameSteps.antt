-- The first name of a word.
use Rattle.std.proofs.Common.{◌≡◌, ◌≢◌, ℕ, suc, ◌<◌, cond, List, [], ◌∷◌, ◌++◌, length, get_or, refl, ap, ◌∙◌, arith}
use Rattle.std.proofs.lemmas.Bool.{eq-eqb, ne_eqb}
use Rattle.load_options.specs.Texts.{pieces_at, put_front}

-- the piece before the first separator, and those behind it
pub first_piece : (c : ℕ) (name behind : List ℕ) → ((i : ℕ) → i < length name → get_or name i 0 ≢ c) → pieces_at c (name ++ c ∷ behind) ≡ name ∷ pieces_at c behind
first_piece c [] behind none = ap (λ t. cond t ([] ∷ pieces_at c behind) (put_front c (pieces_at c behind))) (eq-eqb c c refl)
first_piece c (b ∷ name) behind none =
    let apart : b ≢ c = none 0 (omega arith) in
    ap (λ t. cond t ([] ∷ pieces_at c (name ++ c ∷ behind)) (put_front b (pieces_at c (name ++ c ∷ behind)))) (ne_eqb b c apart)
    ∙ ap (put_front b) (first_piece c name behind (λ i lt. none (suc i) (omega (arith, lt))))
