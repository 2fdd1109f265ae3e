-- Keys are the same where the values are that they stand for.
use Rattle.std.proofs.Common.{◌≡◌, true, false, refl}
use Rattle.column_profile.specs.declared.different.Key.{Key}
use Rattle.column_profile.specs.declared.different.Key.TheVariants as keys
use Rattle.column_profile.specs.contracts.different.KeyPartialEq.TheImpl.{eq-value}
use Rattle.column_profile.specs.Kept.{value_of}
use Rattle.column_profile.specs.Values.{same_value}

pub same_keys : (a b : Key) → eq-value.it a b ≡ same_value (value_of a) (value_of b)
same_keys (keys.Truth true) (keys.Truth true) = refl
same_keys (keys.Truth true) (keys.Truth false) = refl
same_keys (keys.Truth false) (keys.Truth true) = refl
same_keys (keys.Truth false) (keys.Truth false) = refl
same_keys (keys.Truth a) (keys.Number b) = refl
same_keys (keys.Truth a) (keys.Day b) = refl
same_keys (keys.Truth a) (keys.Time b) = refl
same_keys (keys.Truth a) (keys.Stamp b) = refl
same_keys (keys.Number a) (keys.Truth b) = refl
same_keys (keys.Number a) (keys.Number b) = refl
same_keys (keys.Number a) (keys.Day b) = refl
same_keys (keys.Number a) (keys.Time b) = refl
same_keys (keys.Number a) (keys.Stamp b) = refl
same_keys (keys.Day a) (keys.Truth b) = refl
same_keys (keys.Day a) (keys.Number b) = refl
same_keys (keys.Day a) (keys.Day b) = refl
same_keys (keys.Day a) (keys.Time b) = refl
same_keys (keys.Day a) (keys.Stamp b) = refl
same_keys (keys.Time a) (keys.Truth b) = refl
same_keys (keys.Time a) (keys.Number b) = refl
same_keys (keys.Time a) (keys.Day b) = refl
same_keys (keys.Time a) (keys.Time b) = refl
same_keys (keys.Time a) (keys.Stamp b) = refl
same_keys (keys.Stamp a) (keys.Truth b) = refl
same_keys (keys.Stamp a) (keys.Number b) = refl
same_keys (keys.Stamp a) (keys.Day b) = refl
same_keys (keys.Stamp a) (keys.Time b) = refl
same_keys (keys.Stamp a) (keys.Stamp b) = refl
