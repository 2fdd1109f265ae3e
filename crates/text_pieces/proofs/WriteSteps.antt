-- Texts that are written one after another.
use Rattle.std.proofs.Common.{◌≡◌, ℕ, List, [], ◌++◌, Option, Result, Ok, Err, refl, sym, ap, ◌∙◌, subst, append_assoc, append-nil, arith}
use Rattle.std.specs.Io.KnownBytes.{Appends}
use Rattle.std.specs.Result.{IsErr}
use Rattle.std.proofs.KnownBytes.{Appends-nil, Appends-trans}
use Rattle.text_pieces.specs.Writes.{HasWritten, Writes}
use Rattle.text_pieces.proofs.Fronts.{cause_behind, cause_failed, front_before, front_behind, ok_behind, whole_front}

-- nothing is written yet
pub none_written : (a : Option (List ℕ)) (m : ℕ) (whole : List ℕ) → HasWritten a a m m whole whole
none_written a m whole = record { done = []; whole_is = refl; taken = Appends-nil a; later = omega arith }

-- all is written
pub all_written : {T E : Type 0} {a b : Option (List ℕ)} {m n : ℕ} {whole : List ℕ} (v : T) → HasWritten a b m n whole [] → Writes {E = E} a b m n (Ok v) whole
all_written {a = a} {b = b} {whole = whole} v has =
    let text : Appends a b whole = subst (Appends a b) (sym (append-nil has.done) ∙ has.whole_is) has.taken in
    record { ok = text; front = whole_front a b whole text; cause = record { later = has.later; failed = tt } }

module _ {a b c : Option (List ℕ)} {m n o : ℕ} {whole xs : List ℕ} where
  -- one text more was written
  pub more_written : {left : List ℕ} {T E : Type 0} (v : T) (rest : List ℕ) → HasWritten a b m n whole left → left ≡ xs ++ rest → Writes {E = E} b c n o (Ok v) xs → HasWritten a c m o whole rest
  more_written v rest has is next = record {
    done = has.done ++ xs;
    whole_is = append_assoc has.done xs rest ∙ ap (λ text. has.done ++ text) (sym is) ∙ has.whole_is;
    taken = Appends-trans a b c has.done xs has.taken next.ok;
    later = omega (arith, has.later, next.cause.later);
  }

  -- the last text was written, or failed
  pub last_written : {T E : Type 0} (r : Result T E) → HasWritten a b m n whole xs → Writes b c n o r xs → Writes a c m o r whole
  last_written r has last = subst (Writes a c m o r) has.whole_is (record {
    ok = ok_behind r a b c has.done xs has.taken last.ok;
    front = front_behind a b c has.done xs has.taken last.front;
    cause = cause_behind r m n o has.later last.cause;
  })

  -- a text failed, with more behind it
  pub not_written : {left : List ℕ} {S T E : Type 0} (e : E) (rest : List ℕ) → HasWritten a b m n whole left → left ≡ xs ++ rest → Writes {T = S} b c n o (Err e) xs → Writes {T = T} a c m o (Err e) whole
  not_written {left} {S} {T} {E} e rest has is next = subst (Writes {T = T} a c m o (Err e)) (ap (λ text. has.done ++ text) (sym is) ∙ has.whole_is) (record {
    ok = tt;
    front = front_behind a b c has.done (xs ++ rest) has.taken (front_before b c xs rest next.front);
    cause = cause_failed {T = T} (Err e) m n o has.later next.cause.later next.cause.failed;
  })

  -- the same, where the answer is told on
  pub told_on : {left : List ℕ} {S T E F : Type 0} (r : Result T F) (e : E) (rest : List ℕ) → IsErr r → HasWritten a b m n whole left → left ≡ xs ++ rest → Writes {T = S} b c n o (Err e) xs → Writes a c m o r whole
  told_on (Ok v) e rest is has split next = absurd (let no : ⊥ = cc in no)
  told_on {T = T} (Err f) e rest is has split next = (let not = not_written {T = T} e rest has split next in record { ok = tt; front = not.front; cause = record { later = not.cause.later; failed = not.cause.failed } })
