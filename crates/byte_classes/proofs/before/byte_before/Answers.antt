use Rattle.std.proofs.Common.{◌≡◌, ℕ, suc, ◌-◌, List, [], ◌∷◌, length, take, refl, ◌∙◌, ap, arith}
use Rattle.std.specs.Prelude.{Some, None, slice_get}
use Rattle.std.specs.List.{last_or}
use Rattle.byte_classes.proofs.before.byte_before.Goals as goal

last-get : (bytes : List ℕ) → slice_get bytes (length bytes - 1) ≡ last_or None bytes
last-get [] = refl
last-get (b ∷ bytes) = further b bytes where
  further : (c : ℕ) (rest : List ℕ) → slice_get (c ∷ rest) (suc (length rest) - 1) ≡ last_or (Some c) rest
  further c [] = refl
  further c (e ∷ rest) = let count : suc (suc (length rest)) - 1 ≡ suc (suc (length rest) - 1) = omega arith in ap (slice_get (c ∷ e ∷ rest)) count ∙ further e rest

pub returns : goal.returns
returns c = c.copied.ensures ∙ c.last.ensures.value ∙ last-get (take c.args.place c.args.bytes.now)
