-- Which bytes end a line.
use Rattle.std.proofs.Common.{◌≡◌, ℕ, Bool, true, false, cond, refl, ap}
use Rattle.std.specs.Prelude.{◌==◌}
use Rattle.byte_classes.specs.declared.class.Class.{Class}
use Rattle.byte_classes.specs.declared.class.Class.TheVariants as class
use Rattle.byte_classes.specs.Dialect.{Marks, is_byte}
use Rattle.byte_classes.specs.Class.{class_of}

by_tests : Bool → Bool → Bool → Bool → Bool → Bool → Class
by_tests lf cr delim quote escape comment = cond lf class.Lf (cond cr class.Cr (cond delim class.Delim (cond quote class.Quote (cond escape class.Escape (cond comment class.Comment class.Other)))))

lf_passes : (lf cr delim quote escape comment : Bool) → by_tests lf cr delim quote escape comment ≡ class.Lf → lf ≡ true
unfolding by_tests
lf_passes true cr delim quote escape comment h = refl
lf_passes false true delim quote escape comment h = absurd (let no : ⊥ = cc in no)
lf_passes false false true quote escape comment h = absurd (let no : ⊥ = cc in no)
lf_passes false false false true escape comment h = absurd (let no : ⊥ = cc in no)
lf_passes false false false false true comment h = absurd (let no : ⊥ = cc in no)
lf_passes false false false false false true h = absurd (let no : ⊥ = cc in no)
lf_passes false false false false false false h = absurd (let no : ⊥ = cc in no)

cr_passes : (lf cr delim quote escape comment : Bool) → by_tests lf cr delim quote escape comment ≡ class.Cr → cr ≡ true
unfolding by_tests
cr_passes true cr delim quote escape comment h = absurd (let no : ⊥ = cc in no)
cr_passes false true delim quote escape comment h = refl
cr_passes false false true quote escape comment h = absurd (let no : ⊥ = cc in no)
cr_passes false false false true escape comment h = absurd (let no : ⊥ = cc in no)
cr_passes false false false false true comment h = absurd (let no : ⊥ = cc in no)
cr_passes false false false false false true h = absurd (let no : ⊥ = cc in no)
cr_passes false false false false false false h = absurd (let no : ⊥ = cc in no)

pub lf_is : (d : Marks) (b : ℕ) → class_of d b ≡ class.Lf → b == 10 ≡ true
unfolding by_tests
lf_is d b h = lf_passes (b == 10) (b == 13) (b == d.delim) (is_byte d.quote b) (is_byte d.escape b) (is_byte d.comment b) h

pub cr_is : (d : Marks) (b : ℕ) → class_of d b ≡ class.Cr → b == 13 ≡ true
unfolding by_tests
cr_is d b h = cr_passes (b == 10) (b == 13) (b == d.delim) (is_byte d.quote b) (is_byte d.escape b) (is_byte d.comment b) h

pub lf_from : (d : Marks) (b : ℕ) → b == 10 ≡ true → class_of d b ≡ class.Lf
unfolding by_tests
lf_from d b h = ap (λ lf. by_tests lf (b == 13) (b == d.delim) (is_byte d.quote b) (is_byte d.escape b) (is_byte d.comment b)) h
