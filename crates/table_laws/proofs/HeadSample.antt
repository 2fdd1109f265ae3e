-- A sample that begins with a head's last line, whatever follows it.
use Rattle.std.proofs.Common.{◌≡◌, ◌≢◌, ℕ, zero, suc, ◌+◌, ◌-◌, ◌<◌, ◌≤◌, Bool, true, false, ◌&&◌, cond, List, [], ◌∷◌, ◌++◌, length, take, drop, refl, sym, ◌∙◌, ap, subst, arith, ◌⊎◌, inl, inr, append_assoc, length-append, length-take}
use Rattle.std.specs.Prelude.{Option, None, Some, nat_le, ◌==◌}
use Rattle.std.specs.List.{last_or}
use Rattle.std.proofs.lemmas.Bool.{leb-false, leb-true}
use Rattle.std.proofs.lemmas.List.{append-nil, take-append-drop}
use Rattle.std.proofs.Math.Seq.{take-append_seam, take-append-add}
use Rattle.byte_classes.specs.Dialect.{is_byte}
use Rattle.csv_sniffer.specs.LineEnd.{line_end_of, line_end_length, kind_behind_cr}
use Rattle.csv_sniffer.specs.declared.found.Newline.TheVariants as newline
use Rattle.csv_sniffer.specs.Sample.{sample_limit, without_last_cr, is_whole, sample_of}
use Rattle.csv_sniffer.proofs.LineStarts.{parts}
use Rattle.csv_sniffer.proofs.SampleLaws.{sample-limited}

-- a sample is a front and some of what follows it
pub record Begins (front other sample : List ℕ) : Type 0 where
  pub more : List ℕ
  pub tail : List ℕ
  pub is : sample ≡ front ++ more
  pub of : other ≡ more ++ tail

-- a CR that is dropped behind a front
cut_behind : (front : List ℕ) (c : ℕ) (ys tail other : List ℕ) → other ≡ (c ∷ ys) ++ tail → Begins front other (without_last_cr (front ++ c ∷ ys))
cut_behind front c ys tail other of = by_test (is_byte (last_or None (front ++ c ∷ ys)) 13) where
  by_test : (t : Bool) → Begins front other (cond t (take (length (front ++ c ∷ ys) - 1) (front ++ c ∷ ys)) (front ++ c ∷ ys))
  by_test true =
      let count : length (front ++ c ∷ ys) - 1 ≡ length front + length ys = omega (arith, length-append front (c ∷ ys)) in
      record {
        more = take (length ys) (c ∷ ys);
        tail = drop (length ys) (c ∷ ys) ++ tail;
        is = ap (λ n. take n (front ++ c ∷ ys)) count ∙ take-append-add front (c ∷ ys) (length ys);
        of = of ∙ ap (λ l. l ++ tail) (sym (take-append-drop (length ys) (c ∷ ys))) ∙ append_assoc (take (length ys) (c ∷ ys)) (drop (length ys) (c ∷ ys)) tail;
      }
  by_test false = record { more = c ∷ ys; tail = tail; is = refl; of = of }

module _ (front text other : List ℕ) (inside : length front ≤ length (sample_of (front ++ text))) (some : (other ≡ []) ⊎ (text ≢ [])) where
  limited : length front ≤ sample_limit
  limited = omega (arith, inside, sample-limited (front ++ text))

  text_none : length (front ++ text) ≤ length front → text ≡ []
  text_none le = none text (omega (arith, le, length-append front text)) where
    none : (l : List ℕ) → length l ≤ 0 → l ≡ []
    none [] h = refl
    none (x ∷ l) h = absurd (let no : ⊥ = omega (arith, h) in no)

  other_long : sample_limit < length (front ++ other) → other ≢ []
  other_long long none = (let len = length-append front other in let zero_long = ap length none in omega (arith, long, len, zero_long, limited))

  -- a front that fills a sample doesn't end with a CR
  no_cr : sample_limit ≡ length front → sample_limit < length (front ++ other) → is_byte (last_or None front) 13 ≡ false
  no_cr full long = by_whole (is_whole (front ++ text)) refl inside where
    whole_front : take sample_limit (front ++ text) ≡ front
    whole_front = ap (λ n. take n (front ++ text)) full ∙ take-append_seam front text

    by_cr : (t : Bool) → is_byte (last_or None (take sample_limit (front ++ text))) 13 ≡ t → length front ≤ length (cond t (take (length (take sample_limit (front ++ text)) - 1) (take sample_limit (front ++ text))) (take sample_limit (front ++ text))) →
        is_byte (last_or None front) 13 ≡ false
    by_cr true e fits =
        let short = length-take (length (take sample_limit (front ++ text)) - 1) (take sample_limit (front ++ text)) in
        let own = ap length whole_front in
        absurd (let no : ⊥ = omega (arith, short, own, fits, full) in no)
    by_cr false e fits = ap (λ l. is_byte (last_or None l) 13) (sym whole_front) ∙ e

    by_whole : (t : Bool) → nat_le (length (front ++ text)) sample_limit ≡ t → length front ≤ length (cond t (front ++ text) (without_last_cr (take sample_limit (front ++ text)))) → is_byte (last_or None front) 13 ≡ false
    by_whole true e fits =
        let short : length (front ++ text) ≤ sample_limit = leb-true (length (front ++ text)) sample_limit e in
        let none : text ≡ [] = text_none (omega (arith, short, full)) in
        absurd (elim some [ inl nothing ↦ other_long long nothing | inr filled ↦ filled none ])
    by_whole false e fits = by_cr (is_byte (last_or None (take sample_limit (front ++ text))) 13) refl fits

  pub sample_behind : Begins front other (sample_of (front ++ other))
  sample_behind = by_whole (is_whole (front ++ other)) refl where
    left : ℕ
    left = sample_limit - length front

    taken : take sample_limit (front ++ other) ≡ front ++ take left other
    taken = (let count : sample_limit ≡ length front + left = omega (arith, limited) in ap (λ n. take n (front ++ other)) count ∙ take-append-add front other left)

    none_left : (n : ℕ) (l : List ℕ) → take n l ≡ [] → l ≢ [] → n ≡ 0
    none_left zero l none filled = refl
    none_left (suc n) [] none filled = absurd (filled refl)
    none_left (suc n) (x ∷ l) none filled = absurd (let no : ⊥ = cc in no)

    by_left : (l tail : List ℕ) → take left other ≡ l → other ≡ l ++ tail → sample_limit < length (front ++ other) → Begins front other (without_last_cr (front ++ l))
    by_left [] tail none of long =
        let full : left ≡ 0 = none_left left other none (other_long long) in
        let bare : is_byte (last_or None front) 13 ≡ false = no_cr (omega (arith, full, limited)) long in
        record {
          more = [];
          tail = other;
          is = ap (λ l. without_last_cr l) (append-nil front) ∙ ap (λ t. cond t (take (length front - 1) front) front) bare ∙ sym (append-nil front);
          of = refl;
        }
    by_left (c ∷ ys) tail is of long = cut_behind front c ys tail other of

    by_whole : (t : Bool) → nat_le (length (front ++ other)) sample_limit ≡ t → Begins front other (cond t (front ++ other) (without_last_cr (take sample_limit (front ++ other))))
    by_whole true e = record { more = other; tail = []; is = refl; of = sym (append-nil other) }
    by_whole false e =
        let long : sample_limit < length (front ++ other) = leb-false (length (front ++ other)) sample_limit e in
        subst (λ l. Begins front other (without_last_cr l)) (sym taken)
        (by_left (take left other) (drop left other) refl (sym (take-append-drop left other)) long)

-- ---- the line end at the end of a front

-- it is one whatever follows
pub line_end_alike : (end more other : List ℕ) (o : Option ℕ) → end ≢ [] → line_end_length (line_end_of (end ++ more)) ≡ length end → parts (last_or o end) other ≡ false → line_end_length (line_end_of (end ++ other)) ≡ length end
line_end_alike [] more other o filled is apart = absurd (filled refl)
line_end_alike (c ∷ cs) more other o filled is apart = by_lf (c == 10) refl is where
  behind_cr : (m : List ℕ) → (c == 13) ≡ true → parts (Some c) m ≡ false → line_end_length (Some (kind_behind_cr m)) ≡ 1
  behind_cr [] cr none = refl
  behind_cr (f ∷ m) cr none = ap (λ t. line_end_length (Some (cond t newline.CrLf newline.Cr))) ((λ i. sym cr i && (f == 10)) ∙ none)

  by_next : (fs : List ℕ) → (c == 13) ≡ true → parts (last_or (Some c) fs) other ≡ false → line_end_length (Some (kind_behind_cr (fs ++ more))) ≡ suc (length fs) → line_end_length (Some (kind_behind_cr (fs ++ other))) ≡ suc (length fs)
  by_next [] cr none long = behind_cr other cr none
  by_next (f ∷ fs) cr none long = long

  by_cr : (t : Bool) → (c == 13) ≡ t → line_end_length (cond t (Some (kind_behind_cr (cs ++ more))) None) ≡ suc (length cs) → line_end_length (cond t (Some (kind_behind_cr (cs ++ other))) None) ≡ suc (length cs)
  by_cr true cr long = by_next cs cr apart long
  by_cr false cr long = absurd (let no : 0 ≡ suc (length cs) = long in let wrong : ⊥ = omega (arith, no) in wrong)

  by_lf : (t : Bool) → (c == 10) ≡ t → line_end_length (cond t (Some newline.Lf) (cond (c == 13) (Some (kind_behind_cr (cs ++ more))) None)) ≡ suc (length cs) →
      line_end_length (cond t (Some newline.Lf) (cond (c == 13) (Some (kind_behind_cr (cs ++ other))) None)) ≡ suc (length cs)
  by_lf true e long = long
  by_lf false e long = by_cr (c == 13) refl long
