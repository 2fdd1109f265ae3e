-- Bytes to which a dialect gives no meaning.
use Rattle.std.specs.Prelude.{◌≡◌, ℕ, Bool, false, IfSome}
use Rattle.byte_classes.specs.Dialect.{IsDialect, Marks}

-- none of these bytes ends a line, and to none the dialect gives a meaning but that of an escape
pub record LeavesPlain (p : ℕ → Bool) (d : Marks) : Type 0 where
  pub sound : IsDialect d
  pub lf : p 10 ≡ false
  pub cr : p 13 ≡ false
  pub delim : p d.delim ≡ false
  pub quote : IfSome d.quote (λ q. p q ≡ false)
  pub comment : IfSome d.comment (λ k. p k ≡ false)
