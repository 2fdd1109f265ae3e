-- A byte order mark and what is skipped are the same whatever follows them.
use Rattle.std.proofs.Common.{◌≡◌, ◌≢◌, ℕ, ◌-◌, Bool, true, false, cond, List, [], ◌∷◌, ◌++◌, length, drop, refl, sym, ◌∙◌, ap, arith, ◌⊎◌, inl, inr, length-append}
use Rattle.std.specs.Prelude.{None, Some, nat_eq}
use Rattle.std.specs.List.{last_or, starts_with}
use Rattle.std.proofs.lemmas.Bool.{false_from_ne_true}
use Rattle.std.proofs.lemmas.Bool.Decides.{Decides-eqb}
use Rattle.std.proofs.lemmas.Slice.Eq.{starts_is}
use Rattle.byte_classes.specs.ByteOrderMark.{byte_order_mark}
use Rattle.csv_sniffer.specs.Sample.{start_of_sample, without_mark, behind_lines}
use Rattle.csv_sniffer.proofs.LineStarts.{parts}
use Rattle.table_laws.proofs.HeadLines.{Follows, EndsAscii, Leaves, lines_left}

-- ---- the mark

-- bytes whose last one is ASCII don't begin a mark that ends behind them
marked_by : (front : List ℕ) → EndsAscii front → (rest other : List ℕ) → starts_with nat_eq (front ++ rest) byte_order_mark ≡ false → starts_with nat_eq (front ++ other) byte_order_mark ≡ true → ⊥
marked_by [] (c, is, below) rest other none some = let no : ⊥ = cc in no
marked_by (a ∷ []) (c, is, below) rest other none some =
    let whole : a ∷ other ≡ 0xEF ∷ 0xBB ∷ 0xBF ∷ drop 3 (a ∷ other) = (starts_is Decides-eqb (a ∷ other) byte_order_mark _ refl).0 some in
    let first : a ≡ 0xEF = cc in
    let same : a ≡ c = cc in
    omega (arith, first, same, below)
marked_by (a ∷ (b ∷ [])) (c, is, below) rest other none some =
    let whole : a ∷ (b ∷ other) ≡ 0xEF ∷ 0xBB ∷ 0xBF ∷ drop 3 (a ∷ (b ∷ other)) = (starts_is Decides-eqb (a ∷ (b ∷ other)) byte_order_mark _ refl).0 some in
    let second : b ≡ 0xBB = cc in
    let same : b ≡ c = cc in
    omega (arith, second, same, below)
marked_by (a ∷ (b ∷ (e ∷ front))) ends rest other none some = let no : ⊥ = cc in no

pub bare_again : (front rest other : List ℕ) → starts_with nat_eq (front ++ rest) byte_order_mark ≡ false → (other ≡ []) ⊎ (rest ≢ []) → ((true ≡ true) × (front ≡ [])) ⊎ ((rest ≡ []) ⊎ EndsAscii front) →
    (front ≡ [] → starts_with nat_eq other byte_order_mark ≡ false) → starts_with nat_eq (front ++ other) byte_order_mark ≡ false
bare_again front rest other bare some (inl (t, nil)) none = ap (λ f. starts_with nat_eq (f ++ other) byte_order_mark) nil ∙ none nil
bare_again front rest other bare (inl nothing) (inr (inl empty)) none = ap (λ o. starts_with nat_eq (front ++ o) byte_order_mark) (nothing ∙ sym empty) ∙ bare
bare_again front rest other bare (inr filled) (inr (inl empty)) none = absurd (filled empty)
bare_again front rest other bare some (inr (inr ends)) none = false_from_ne_true _ (marked_by front ends rest other bare)

-- ---- where a sample begins

-- what stands before a sample, and behind which each other text that follows is read as one
pub record SampleBegins (skip : ℕ) (input : List ℕ) : Type 0 where
  pub front : List ℕ
  pub rest : List ℕ
  pub is : input ≡ front ++ rest
  pub start : start_of_sample skip input ≡ length front
  pub apart : parts (last_or None front) rest ≡ false
  pub bare : front ≡ [] → starts_with nat_eq rest byte_order_mark ≡ false
  pub again : (other : List ℕ) → Follows (last_or None front) rest other → (front ≡ [] → starts_with nat_eq other byte_order_mark ≡ false) → start_of_sample skip (front ++ other) ≡ length front

-- as many bytes stand before what is left
behind_front : (skip : ℕ) (front other : List ℕ) → behind_lines skip (without_mark (front ++ other)) ≡ other → start_of_sample skip (front ++ other) ≡ length front
behind_front skip front other left =
    let long = length-append front other in
    let count : length (front ++ other) - length other ≡ length front = omega (arith, long) in
    ap (λ l. length (front ++ other) - length l) left ∙ count

pub sample_begins : (skip : ℕ) (input : List ℕ) → SampleBegins skip input
sample_begins skip input = by_mark (starts_with nat_eq input byte_order_mark) refl where
  by_mark : (t : Bool) → starts_with nat_eq input byte_order_mark ≡ t → SampleBegins skip input
  by_mark true marked =
      let whole : input ≡ byte_order_mark ++ drop 3 input = (starts_is Decides-eqb input byte_order_mark (starts_with nat_eq input byte_order_mark) refl).0 marked in
      let lines : Leaves true (behind_lines skip) (Some 0xBF) (drop 3 input) (behind_lines skip (drop 3 input)) = lines_left skip (Some 0xBF) (drop 3 input) refl in
      let left : behind_lines skip (without_mark input) ≡ behind_lines skip (drop 3 input) = ap (λ t. behind_lines skip (cond t (drop 3 input) input)) marked in
      let is : input ≡ (byte_order_mark ++ lines.front) ++ behind_lines skip (drop 3 input) = whole ∙ ap (λ l. byte_order_mark ++ l) lines.is in
      record {
        front = byte_order_mark ++ lines.front;
        rest = behind_lines skip (drop 3 input);
        is = is;
        start = ap (start_of_sample skip) is ∙ behind_front skip (byte_order_mark ++ lines.front) (behind_lines skip (drop 3 input)) (ap (λ l. behind_lines skip (without_mark l)) (sym is) ∙ left);
        apart = lines.apart;
        bare = λ none. let wrong : ⊥ = cc in absurd wrong;
        again = λ other f none. behind_front skip (byte_order_mark ++ lines.front) other (lines.again other f);
      }
  by_mark false bare =
      let lines : Leaves true (behind_lines skip) None input (behind_lines skip input) = lines_left skip None input refl in
      let same : without_mark input ≡ input = ap (λ t. cond t (drop 3 input) input) bare in
      let left : behind_lines skip (without_mark input) ≡ behind_lines skip input = ap (behind_lines skip) same in
      record {
        front = lines.front;
        rest = behind_lines skip input;
        is = lines.is;
        start = ap (start_of_sample skip) lines.is ∙ behind_front skip lines.front (behind_lines skip input) (ap (λ l. behind_lines skip (without_mark l)) (sym lines.is) ∙ left);
        apart = lines.apart;
        bare = λ none. ap (λ f. starts_with nat_eq (f ++ behind_lines skip input) byte_order_mark) (sym none) ∙ ap (λ l. starts_with nat_eq l byte_order_mark) (sym lines.is) ∙ bare;
        again = λ other f none. behind_front skip lines.front other
            (ap (λ t. behind_lines skip (cond t (drop 3 (lines.front ++ other)) (lines.front ++ other)))
            (bare_again lines.front (behind_lines skip input) other (ap (λ l. starts_with nat_eq l byte_order_mark) (sym lines.is) ∙ bare) f.some lines.ends none)
            ∙ lines.again other f);
      }
