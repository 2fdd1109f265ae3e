-- No plain byte ends a line, and what the null text begins with.
use Rattle.std.proofs.Common.{◌≡◌, ◌<◌, ℕ, Bool, false, List, [], ◌∷◌, length, get_or, refl, arith}
use Rattle.std.proofs.lemmas.Bool.{or_from}
use Rattle.value_types.specs.declared.types.ColumnType.{ColumnType}
use Rattle.value_types.specs.declared.types.ColumnType.TheVariants as types
use Rattle.value_types.specs.Plain.{is_plain}
use Rattle.range_scan.specs.FastRows.{begins_plain, is_plain_in}

no_line_feed : (ty : ColumnType) → is_plain ty 10 ≡ false
no_line_feed types.Boolean = refl
no_line_feed types.Bigint = refl
no_line_feed types.Date = refl
no_line_feed types.Time = refl
no_line_feed types.Timestamp = refl
no_line_feed types.Varchar = refl

no_return : (ty : ColumnType) → is_plain ty 13 ≡ false
no_return types.Boolean = refl
no_return types.Bigint = refl
no_return types.Date = refl
no_return types.Time = refl
no_return types.Timestamp = refl
no_return types.Varchar = refl

pub none_is_lf : (tys : List ColumnType) → is_plain_in tys 10 ≡ false
none_is_lf [] = refl
none_is_lf (ty ∷ tys) = or_from (is_plain ty 10) (is_plain_in tys 10) (no_line_feed ty) (none_is_lf tys)

pub none_is_cr : (tys : List ColumnType) → is_plain_in tys 13 ≡ false
none_is_cr [] = refl
none_is_cr (ty ∷ tys) = or_from (is_plain ty 13) (is_plain_in tys 13) (no_return ty) (none_is_cr tys)

pub begins_is : (p : ℕ → Bool) (text : List ℕ) → 0 < length text → begins_plain p text ≡ p (get_or text 0 0)
begins_is p [] some = absurd (let n : ⊥ = omega (arith, some) in n)
begins_is p (b ∷ text) some = refl

pub begins_none : (p : ℕ → Bool) (text : List ℕ) → length text ≡ 0 → begins_plain p text ≡ false
begins_none p [] none = refl
begins_none p (b ∷ text) none = absurd (let n : ⊥ = omega (arith, none) in n)
