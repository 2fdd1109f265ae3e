use Rattle.std.proofs.Common.{◌≡◌, ◌∙◌, ◌+◌, ◌++◌, ◌<◌, ◌⊎◌, ℕ, suc, ℤ, List, [], ◌∷◌, true, false, ap, append_assoc, length, take, set, arith, inl, inr, ltb-true, pos, negsuc, to_z-of_z, unsigned_abs}
use Rattle.std.specs.Fmt.{decimal, signed_decimal}
use Rattle.std.specs.Prelude.{int_lt}
use Rattle.std.proofs.lemmas.Bool.{cases_Bool}
use Rattle.std.proofs.lemmas.List.{take-set, take_more_set}
use mir.Val.{bool_byte}
use Rattle.value_types.proofs.printing.number.put_number.Goals as goal

-- the minus before the place of the digits is kept where the number is below 0, and is none of the bytes before that place elsewhere
sign_kept : (z : ℤ) (old : List ℕ) (at : ℕ) → at < length old → take (at + bool_byte (int_lt z (pos 0))) (set old at 45) ++ decimal (unsigned_abs z) ≡ take at old ++ signed_decimal z
sign_kept (pos n) old at room =
    ap (λ t. take (at + bool_byte t) (set old at 45) ++ decimal n) (natural (cases_Bool (int_lt (pos n) (pos 0))))
    ∙ ap (λ xs. xs ++ decimal n) (ap (λ k. take k (set old at 45)) none ∙ take-set old at 45) where
      none : at + 0 ≡ at
      none = omega arith

      natural : (int_lt (pos n) (pos 0) ≡ true) ⊎ (int_lt (pos n) (pos 0) ≡ false) → int_lt (pos n) (pos 0) ≡ false
      natural (inl below) = absurd (let no : ⊥ = omega (arith, ltb-true n 0 below) in no)
      natural (inr is) = is
sign_kept (negsuc n) old at room =
    ap (λ xs. xs ++ decimal (suc n)) (take_more_set old at 45 room) ∙ append_assoc (take at old) (45 ∷ []) (decimal (suc n))

pub returns-clause-text : goal.returns-clause-text
returns-clause-text c =
    let back = to_z-of_z c.ranges.number in
    c.put_magnitude.ensures.text
    ∙ (λ i. take (c.args.at + (c.from.ensures ∙ ap (λ z. bool_byte (int_lt z (pos 0))) back) i) (set c.args.into.now c.args.at 45) ++ decimal ((c.unsigned_abs.ensures.value ∙ ap unsigned_abs back) i))
    ∙ sign_kept c.args.number c.args.into.now c.args.at (omega (arith, c.requires.room))
