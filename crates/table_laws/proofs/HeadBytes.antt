-- Bytes, rows and line ends at the end of a head.
use Rattle.std.proofs.Common.{◌≡◌, ◌≢◌, ℕ, zero, suc, ◌-◌, ◌<◌, ◌≤◌, Bool, true, false, cond, not, List, [], ◌∷◌, ◌++◌, length, take, drop, refl, sym, ◌∙◌, ap, subst, arith, inl, inr, length-drop}
use Rattle.std.specs.Prelude.{None, Some, filter, ◌==◌}
use Rattle.std.proofs.lemmas.Bool.{eqb-true}
use Rattle.std.proofs.lemmas.List.{take-append-le, drop-append-le}
use Rattle.csv_source.specs.Lists.{is_empty}
use Rattle.dialect_rank.specs.Sampled.{Span, span_bytes}
use Rattle.csv_sniffer.specs.declared.found.Newline.TheVariants as newline
use Rattle.csv_sniffer.specs.LineEnd.{line_end_of, line_end_length, kind_behind_cr}
use Rattle.csv_sniffer.specs.Sample.{sample_of}
use Rattle.table_laws.proofs.HeadLines.{EndsAscii}
use Rattle.table_laws.proofs.HeadRow.{FirstSpan}
use Rattle.table_laws.proofs.HeadSample.{Begins, sample_behind}

-- ---- bytes of a front

pub span_alike : (front more other : List ℕ) (p e : ℕ) → p ≤ e → e ≤ length front → span_bytes (front ++ more) (p, e) ≡ span_bytes (front ++ other) (p, e)
span_alike front more other p e ordered inside =
    let long = length-drop p front in
    let own : (l : List ℕ) → take (e - p) (drop p (front ++ l)) ≡ take (e - p) (drop p front) =
    λ l. ap (take (e - p)) (drop-append-le p front l (omega (arith, ordered, inside))) ∙ take-append-le (e - p) (drop p front) l (omega (arith, long, inside)) in
    own more ∙ sym (own other)

-- the first row that passes a test passes it
pub passes : (test : Span → Bool) (spans : List Span) (span : Span) → FirstSpan span (filter test spans) → test span ≡ true
passes test [] span (more, is) = absurd (let no : ⊥ = cc in no)
passes test (x ∷ spans) span first = by_test (test x) refl (λ later. passes test spans span later) first where
  by_test : (t : Bool) → test x ≡ t → (FirstSpan span (filter test spans) → test span ≡ true) → FirstSpan span (cond t (x ∷ filter test spans) (filter test spans)) → test span ≡ true
  by_test true e rest (more, is) = let same : x ≡ span = cc in ap test (sym same) ∙ e
  by_test false e rest first = rest first

-- a line end ends with an ASCII byte
pub end_ascii : (end more : List ℕ) → end ≢ [] → line_end_length (line_end_of (end ++ more)) ≡ length end → EndsAscii end
end_ascii [] more filled is = absurd (filled refl)
end_ascii (c ∷ cs) more filled is = by_lf (c == 10) refl is where
  below : (k n : ℕ) → n < 128 → (k == n) ≡ true → k < 128
  below k n small e = subst (λ m. m < 128) (sym (eqb-true k n e)) small

  alone_byte : (fs : List ℕ) → 1 ≡ suc (length fs) → c < 128 → EndsAscii (c ∷ fs)
  alone_byte [] long small = (c, refl, small)
  alone_byte (f ∷ fs) long small = absurd (let no : ⊥ = omega (arith, long) in no)

  by_pair : (f : ℕ) (fs : List ℕ) (t : Bool) → (f == 10) ≡ t → line_end_length (Some (cond t newline.CrLf newline.Cr)) ≡ suc (suc (length fs)) → EndsAscii (c ∷ (f ∷ fs))
  by_pair f [] true e long = (f, refl, below f 10 (omega arith) e)
  by_pair f (g ∷ fs) true e long = absurd (let no : 2 ≡ suc (suc (suc (length fs))) = long in let wrong : ⊥ = omega (arith, no) in wrong)
  by_pair f fs false e long = absurd (let no : 1 ≡ suc (suc (length fs)) = long in let wrong : ⊥ = omega (arith, no) in wrong)

  by_next : (fs : List ℕ) → (c == 13) ≡ true → line_end_length (Some (kind_behind_cr (fs ++ more))) ≡ suc (length fs) → EndsAscii (c ∷ fs)
  by_next [] cr long = (c, refl, below c 13 (omega arith) cr)
  by_next (f ∷ fs) cr long = by_pair f fs (f == 10) refl long

  by_cr : (t : Bool) → (c == 13) ≡ t → line_end_length (cond t (Some (kind_behind_cr (cs ++ more))) None) ≡ suc (length cs) → EndsAscii (c ∷ cs)
  by_cr true cr long = by_next cs cr long
  by_cr false cr long = absurd (let no : 0 ≡ suc (length cs) = long in let wrong : ⊥ = omega (arith, no) in wrong)

  by_lf : (t : Bool) → (c == 10) ≡ t → line_end_length (cond t (Some newline.Lf) (cond (c == 13) (Some (kind_behind_cr (cs ++ more))) None)) ≡ suc (length cs) → EndsAscii (c ∷ cs)
  by_lf true e long = alone_byte cs long (below c 10 (omega arith) e)
  by_lf false e long = by_cr (c == 13) refl long

pub drop_all : (n : ℕ) (bytes : List ℕ) → length bytes ≤ n → drop n bytes ≡ []
drop_all n [] le = none n where
  none : (n : ℕ) → drop {A = ℕ} n [] ≡ []
  none zero = refl
  none (suc n) = refl
drop_all zero (b ∷ bytes) le = absurd (let no : ⊥ = omega (arith, le) in no)
drop_all (suc n) (b ∷ bytes) le = drop_all n bytes (omega (arith, le))

pub some_first : (spans : List Span) → not (is_empty spans) ≡ true → (span : Span) × FirstSpan span spans
some_first [] some = absurd (let no : ⊥ = cc in no)
some_first (span ∷ spans) some = (span, (spans, refl))

-- a sample is a front of its bytes
pub sample_front : (bytes : List ℕ) → Begins [] bytes (sample_of bytes)
sample_front [] = sample_behind [] [] [] (omega arith) (inl refl)
sample_front (b ∷ bytes) = sample_behind [] (b ∷ bytes) (b ∷ bytes) (omega arith) (inr (λ e. let no : ⊥ = cc in no))
