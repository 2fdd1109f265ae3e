-- Lines that are skipped are the same whatever follows them.
use Rattle.std.proofs.Common.{◌≡◌, ◌≢◌, ℕ, zero, suc, ◌<◌, Bool, true, false, ◌&&◌, cond, List, [], ◌∷◌, ◌++◌, refl, sym, ◌∙◌, ap, subst, arith, ◌⊎◌, inl, inr, append_assoc}
use Rattle.std.specs.Prelude.{Option, None, Some, ◌==◌}
use Rattle.std.specs.List.{last_or}
use Rattle.std.proofs.lemmas.Bool.{eqb-true}
use Rattle.std.proofs.lemmas.List.{append-nil}
use Rattle.byte_classes.proofs.LineEndLaws.{last_or-append}
use Rattle.csv_sniffer.specs.Pairs.{opens_with_lf}
use Rattle.csv_sniffer.specs.Sample.{without_lf, behind_line, behind_lines}
use Rattle.csv_sniffer.proofs.LineStarts.{parts, behind_lf, before_other, before_none}

-- ---- other bytes in the place of a rest

-- they don't part a CR and its LF, and there are none where the rest is empty
pub record Follows (before : Option ℕ) (rest other : List ℕ) : Type 0 where
  pub apart : parts before other ≡ false
  pub some : (other ≡ []) ⊎ (rest ≢ [])

-- behind a front too
pub follow_on : (o : Option ℕ) (front rest other middle : List ℕ) → middle ≡ front ++ rest → parts o middle ≡ false → Follows (last_or o front) rest other → Follows o middle (front ++ other)
follow_on o [] rest other middle is apart f = record { apart = f.apart; some = elim f.some [ inl none ↦ inl none | inr some ↦ inr (λ e. some (sym is ∙ e)) ] }
follow_on o (c ∷ cs) rest other middle is apart f = record {
  apart = ap (parts o) (sym is) ∙ apart;
  some = inr (λ e. let no : c ∷ (cs ++ rest) ≡ [] = sym is ∙ e in let wrong : ⊥ = cc in wrong);
}

-- the last byte of a front is ASCII
abbrev pub EndsAscii : List ℕ → Type 0
EndsAscii front = (c : ℕ) × (last_or None front ≡ Some c) × (c < 128)

ends_behind : (b : ℕ) (front : List ℕ) → EndsAscii front → EndsAscii (b ∷ front)
ends_behind b [] (c, is, below) = absurd (let no : ⊥ = cc in no)
ends_behind b (x ∷ xs) ends = ends

-- what is passed over leaves a rest, and each other one that follows in its place; `free` says whether nothing may be passed over
pub record Leaves (free : Bool) (skip : List ℕ → List ℕ) (before : Option ℕ) (bytes rest : List ℕ) : Type 0 where
  pub front : List ℕ
  pub is : bytes ≡ front ++ rest
  pub apart : parts (last_or before front) rest ≡ false
  pub again : (other : List ℕ) → Follows (last_or before front) rest other → skip (front ++ other) ≡ other
  pub ends : ((free ≡ true) × (front ≡ [])) ⊎ ((rest ≡ []) ⊎ EndsAscii front)

-- ---- lines

line_end_below : (b n : ℕ) → n < 128 → (b == n) ≡ true → b < 128
line_end_below b n below e = subst (λ k. k < 128) (sym (eqb-true b n e)) below

lf_left : (other : List ℕ) → opens_with_lf other ≡ false → without_lf other ≡ other
lf_left [] none = refl
lf_left (b ∷ other) none = ap (λ t. cond t other (b ∷ other)) none

line_left : (before : Option ℕ) (bytes : List ℕ) → parts before bytes ≡ false → Leaves false behind_line before bytes (behind_line bytes)
line_left before [] apart = record {
  front = [];
  is = refl;
  apart = apart;
  again = λ other f. elim f.some [ inl none ↦ ap behind_line none ∙ sym none | inr some ↦ absurd (some refl) ];
  ends = inr (inl refl);
}
line_left before (b ∷ bytes) apart = by_lf (b == 10) refl (line_left (Some b) bytes) where
  Later : Type 0
  Later = parts (Some b) bytes ≡ false → Leaves false behind_line (Some b) bytes (behind_line bytes)

  by_next : (next : List ℕ) → (b == 10) ≡ false → (b == 13) ≡ true → Leaves false behind_line before (b ∷ next) (without_lf next)
  by_next [] lf cr = record {
    front = b ∷ [];
    is = refl;
    apart = before_none (Some b);
    again = λ other f. elim f.some [
      | inl none ↦ (λ i. cond (lf i) (none i) (cond (cr i) (without_lf (none i)) (behind_line (none i)))) ∙ sym none
      | inr some ↦ absurd (some refl)
    ];
    ends = inr (inl refl);
  }
  by_next (y ∷ ys) lf cr = by_pair (y == 10) refl where
    by_pair : (t : Bool) → (y == 10) ≡ t → Leaves false behind_line before (b ∷ (y ∷ ys)) (cond t ys (y ∷ ys))
    by_pair true e = record {
      front = b ∷ (y ∷ []);
      is = refl;
      apart = behind_lf y ys e;
      again = λ other f. λ i. cond (lf i) (y ∷ other) (cond (cr i) (cond (e i) other (y ∷ other)) (behind_line (y ∷ other)));
      ends = inr (inr (y, refl, line_end_below y 10 (omega arith) e));
    }
    by_pair false e = record {
      front = b ∷ [];
      is = refl;
      apart = before_other (Some b) y ys e;
      again = λ other f.
          (λ i. cond (lf i) other (cond (cr i) (without_lf other) (behind_line other)))
          ∙ lf_left other ((λ i. sym cr i && opens_with_lf other) ∙ f.apart);
      ends = inr (inr (b, refl, line_end_below b 13 (omega arith) cr));
    }

  by_cr : (t : Bool) → (b == 10) ≡ false → (b == 13) ≡ t → Later → Leaves false behind_line before (b ∷ bytes) (cond t (without_lf bytes) (behind_line bytes))
  by_cr true lf cr rest = by_next bytes lf cr
  by_cr false lf cr rest =
      let later : Leaves false behind_line (Some b) bytes (behind_line bytes) = rest (λ i. cr i && opens_with_lf bytes) in
      record {
        front = b ∷ later.front;
        is = ap (λ l. b ∷ l) later.is;
        apart = later.apart;
        again = λ other f.
            (λ i. cond (lf i) (later.front ++ other) (cond (cr i) (without_lf (later.front ++ other)) (behind_line (later.front ++ other))))
            ∙ later.again other f;
        ends = elim later.ends [
          | inl none ↦ absurd (let no : false ≡ true = none.0 in let wrong : ⊥ = cc in wrong)
          | inr ended ↦ elim ended [ inl none ↦ inr (inl none) | inr ends ↦ inr (inr (ends_behind b later.front ends)) ]
        ];
      }

  by_lf : (t : Bool) → (b == 10) ≡ t → Later → Leaves false behind_line before (b ∷ bytes) (cond t bytes (cond (b == 13) (without_lf bytes) (behind_line bytes)))
  by_lf true e rest = record {
    front = b ∷ [];
    is = refl;
    apart = behind_lf b bytes e;
    again = λ other f. ap (λ t. cond t other (cond (b == 13) (without_lf other) (behind_line other))) e;
    ends = inr (inr (b, refl, line_end_below b 10 (omega arith) e));
  }
  by_lf false e rest = by_cr (b == 13) e refl rest

pub ascii_behind : (front more : List ℕ) → EndsAscii more → EndsAscii (front ++ more)
ascii_behind [] more ends = ends
ascii_behind (b ∷ front) more ends = ends_behind b (front ++ more) (ascii_behind front more ends)

both_end : (front more middle rest : List ℕ) → middle ≡ more ++ rest → ((false ≡ true) × (front ≡ [])) ⊎ ((middle ≡ []) ⊎ EndsAscii front) → ((true ≡ true) × (more ≡ [])) ⊎ ((rest ≡ []) ⊎ EndsAscii more) →
    ((true ≡ true) × (front ++ more ≡ [])) ⊎ ((rest ≡ []) ⊎ EndsAscii (front ++ more))
both_end front more middle rest is first (inr (inl none)) = inr (inl none)
both_end front more middle rest is first (inr (inr ends)) = inr (inr (ascii_behind front more ends))
both_end front more middle rest is (inl (never, none)) (inl (yes_true, nil)) = absurd (let wrong : ⊥ = cc in wrong)
both_end front more middle rest is (inr (inl none)) (inl (yes_true, nil)) = inr (inl (sym (ap (λ m. m ++ rest) nil) ∙ sym is ∙ none))
both_end front more middle rest is (inr (inr ends)) (inl (yes_true, nil)) = inr (inr (subst EndsAscii (sym (ap (λ m. front ++ m) nil ∙ append-nil front)) ends))

pub lines_left : (n : ℕ) (before : Option ℕ) (bytes : List ℕ) → parts before bytes ≡ false → Leaves true (behind_lines n) before bytes (behind_lines n bytes)
lines_left zero before bytes apart = record { front = []; is = refl; apart = apart; again = λ other f. refl; ends = inl (refl, refl) }
lines_left (suc n) before bytes apart =
    let line : Leaves false behind_line before bytes (behind_line bytes) = line_left before bytes apart in
    let more : Leaves true (behind_lines n) (last_or before line.front) (behind_line bytes) (behind_lines n (behind_line bytes)) = lines_left n (last_or before line.front) (behind_line bytes) line.apart in
    let o : Option ℕ = last_or before line.front in
    let last : last_or before (line.front ++ more.front) ≡ last_or o more.front = last_or-append before line.front more.front in
    record {
      front = line.front ++ more.front;
      is = line.is ∙ ap (λ r. line.front ++ r) more.is ∙ sym (append_assoc line.front more.front (behind_lines n (behind_line bytes)));
      apart = ap (λ p. parts p (behind_lines n (behind_line bytes))) last ∙ more.apart;
      again = λ other f.
          let g : Follows (last_or o more.front) (behind_lines n (behind_line bytes)) other = subst (λ p. Follows p (behind_lines n (behind_line bytes)) other) last f in
          ap (λ l. behind_lines n (behind_line l)) (append_assoc line.front more.front other)
          ∙ ap (behind_lines n) (line.again (more.front ++ other) (follow_on o more.front (behind_lines n (behind_line bytes)) other (behind_line bytes) more.is line.apart g))
          ∙ more.again other g;
      ends = both_end line.front more.front (behind_line bytes) (behind_lines n (behind_line bytes)) more.is line.ends more.ends;
    }
