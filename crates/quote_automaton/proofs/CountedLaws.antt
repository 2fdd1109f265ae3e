-- A block of bytes whose state is known by counting quotes.
use Rattle.std.proofs.Common.{◌≡◌, ℕ, zero, suc, ◌+◌, ◌%◌, ◌<◌, ◌≤◌, Bool, true, false, cond, not, ◌&&◌, ◌||◌, List, [], ◌∷◌, take, drop, length, get_or, refl, sym, ◌∙◌, ap, ap₂, arith}
use Rattle.std.specs.Prelude.{◌==◌}
use Rattle.std.specs.Int.{bit_at}
use Rattle.std.specs.Int.Bits.{bit_xor}
use Rattle.std.proofs.lemmas.List.{drop-drop, take-append-drop, take_all}
use Rattle.std.proofs.lemmas.List.Sums.{fold-append}
use Rattle.std.proofs.lemmas.Nat.Bits.{bit_at_xor, bit_at-zero}
use lib.Lanes.{chunk}
use Rattle.byte_classes.specs.Class.{class_of, is_line_end}
use Rattle.byte_classes.specs.Dialect.{Marks, IsDialect, is_byte}
use Rattle.byte_classes.specs.Masks.{HasBits}
use Rattle.byte_classes.specs.Special.{is_one_of}
use Rattle.byte_classes.proofs.BitLaws.{is_clear}
use Rattle.byte_classes.proofs.SpecialLaws.{line_end_bytes}
use Rattle.quote_automaton.specs.declared.place.Place.{Place}
use Rattle.quote_automaton.specs.declared.state.State.{State}
use Rattle.quote_automaton.specs.Automaton.{doubles_quotes, state_after, state_at, step}
use Rattle.quote_automaton.specs.Counted.{HasRowStarts, IsCounted, begins_counted, bit_behind, counted, is_misplaced, is_set, state_of, toggled}
use Rattle.quote_automaton.specs.Rows.{begins_row}
use Rattle.quote_automaton.proofs.CountedBits.{bit_is, odd_is, set_is}
use Rattle.quote_automaton.proofs.CountedStep.{counted_begins, counted_step}

-- the state after what is left, by that behind the next bytes
pub state_passed : (d : Marks) (s t : State) (bytes : List ℕ) (at n : ℕ) → state_after d s (chunk at n bytes) ≡ t → state_after d s (drop at bytes) ≡ state_after d t (drop (at + n) bytes)
state_passed d s t bytes at n behind =
    ap (state_after d s) (sym (take-append-drop n (drop at bytes)))
    ∙ fold-append (step d) s (take n (drop at bytes)) (drop n (drop at bytes))
    ∙ (λ i. state_after d (behind i) (drop-drop n at bytes i))

-- the states at so many places, one after another
states_along : (d : Marks) (bytes : List ℕ) (state : ℕ → State) (n : ℕ) → n ≤ length bytes → ((i : ℕ) → i < n → step d (state i) (get_or bytes i 0) ≡ state (suc i)) → state_at d (state 0) bytes n ≡ state n
states_along d bytes state zero room steps = refl
states_along d [] state (suc n) room steps = absurd (let no : ⊥ = omega (arith, room) in no)
states_along d (b ∷ bytes) state (suc n) room steps =
    ap (λ (s : State). state_at d s bytes n) (steps 0 (omega arith))
    ∙ states_along d bytes (λ i. state (suc i)) n (let le : suc n ≤ suc (length bytes) = room in omega (arith, le)) (λ i lt. steps (suc i) (omega (arith, lt)))

-- a byte that is in its place outside quotes begins no comment
no_comment : (inside comment behind_quote behind_end quote end : Bool) → is_misplaced inside comment behind_quote behind_end quote end ≡ false → (not inside && comment) ≡ false
no_comment true comment behind_quote behind_end quote end h = refl
no_comment false true behind_quote behind_end quote end h = absurd (let no : ⊥ = cc in no)
no_comment false false behind_quote behind_end quote end h = refl

-- the bit for a byte, and for the one before it
told_here : (test : ℕ → Bool) (block : List ℕ) (m i : ℕ) → HasBits test block m → i < 64 → is_set m i ≡ test (get_or block i 0)
told_here test block m i has lt = set_is m i _ (has i lt)

told_before : (test : ℕ → Bool) (block : List ℕ) (last m n i : ℕ) → HasBits test block m → ((j : ℕ) → j < 64 → bit_at n j ≡ bit_behind (test last) m j) → i < 64 → is_set n i ≡ test (get_or (last ∷ block) i 0)
told_before test block last m n zero has is lt = set_is n 0 (test last) (is 0 lt)
told_before test block last m n (suc i) has is lt = ap (λ (k : ℕ). k == 1) (is (suc i) lt) ∙ told_here test block m i has (omega (arith, lt))

module _ (d : Marks) (place : Place) (block : List ℕ) (quotes ends comments odds inside behind_quotes behind_ends wrong blind : ℕ)
    (has_quotes : HasBits (is_byte d.quote) block quotes) (has_ends : HasBits (is_one_of 10 13 d.delim) block ends) (has_comments : HasBits (is_byte d.comment) block comments)
    (is_inside : (i : ℕ) → i < 64 → bit_at inside i ≡ bit_behind place.inside odds i)
    (after_quotes : (i : ℕ) → i < 64 → bit_at behind_quotes i ≡ bit_behind (is_byte d.quote place.last) quotes i)
    (after_ends : (i : ℕ) → i < 64 → bit_at behind_ends i ≡ bit_behind (is_one_of 10 13 d.delim place.last) ends i)
    (is_wrong : (i : ℕ) → i < 64 → bit_at wrong i ≡ cond (is_misplaced (is_set inside i) (is_set comments i) (is_set behind_quotes i) (is_set behind_ends i) (is_set quotes i) (is_set ends i)) 1 0)
    (is_blind : (i : ℕ) → i < 64 → bit_at blind i ≡ cond (not (doubles_quotes d) && (is_set inside i || is_set quotes i)) 1 0)
    (none_wrong : wrong ≡ 0) (none_blind : blind ≡ 0) (counts : bit_xor odds inside ≡ quotes) where
  -- the byte at a place and the one before it, and whether the place stands between quotes
  abbrev byte : ℕ → ℕ
  byte i = get_or block i 0

  abbrev byte_before : ℕ → ℕ
  byte_before i = get_or (place.last ∷ block) i 0

  abbrev between : ℕ → Bool
  between zero = place.inside
  between (suc i) = is_set odds i

  abbrev state : ℕ → State
  state i = counted (between i) (class_of d (byte_before i))

  here : (test : ℕ → Bool) (m i : ℕ) → HasBits test block m → i < 64 → is_set m i ≡ test (byte i)
  here test m i = told_here test block m i

  before : (test : ℕ → Bool) (m n i : ℕ) → HasBits test block m → ((j : ℕ) → j < 64 → bit_at n j ≡ bit_behind (test place.last) m j) → i < 64 → is_set n i ≡ test (byte_before i)
  before test m n i = told_before test block place.last m n i

  inside_is : (i : ℕ) → i < 64 → is_set inside i ≡ between i
  inside_is zero lt = set_is inside 0 place.inside (is_inside 0 lt)
  inside_is (suc i) lt = ap (λ (k : ℕ). k == 1) (is_inside (suc i) lt)

  clear : (m i : ℕ) (t : Bool) → m ≡ 0 → bit_at m i ≡ cond t 1 0 → t ≡ false
  clear m i t none is = is_clear t (sym is ∙ (ap (λ (k : ℕ). bit_at k i) none ∙ bit_at-zero i))

  placed : (i : ℕ) → i < 64 →
      is_misplaced (between i) (is_byte d.comment (byte i)) (is_byte d.quote (byte_before i)) (is_one_of 10 13 d.delim (byte_before i)) (is_byte d.quote (byte i)) (is_one_of 10 13 d.delim (byte i)) ≡ false
  placed i lt =
      (λ j. is_misplaced (sym (inside_is i lt) j) (sym (here (is_byte d.comment) comments i has_comments lt) j) (sym (before (is_byte d.quote) quotes behind_quotes i has_quotes after_quotes lt) j)
      (sym (before (is_one_of 10 13 d.delim) ends behind_ends i has_ends after_ends lt) j) (sym (here (is_byte d.quote) quotes i has_quotes lt) j) (sym (here (is_one_of 10 13 d.delim) ends i has_ends lt) j))
      ∙ clear wrong i _ none_wrong (is_wrong i lt)

  seen : (i : ℕ) → i < 64 → (not (doubles_quotes d) && (between i || is_byte d.quote (byte i))) ≡ false
  seen i lt =
      (λ j. not (doubles_quotes d) && (sym (inside_is i lt) j || sym (here (is_byte d.quote) quotes i has_quotes lt) j)) ∙ clear blind i _ none_blind (is_blind i lt)

  counted_on : (i : ℕ) → i < 64 → toggled (between i) (is_byte d.quote (byte i)) ≡ is_set odds i
  counted_on i lt =
      let sums : (cond (is_set odds i) 1 0 + cond (between i) 1 0) % 2 ≡ cond (is_byte d.quote (byte i)) 1 0 =
      ap₂ (λ (m n : ℕ). (m + n) % 2) (sym (bit_is odds i)) (ap (λ (t : Bool). cond {A = ℕ} t 1 0) (sym (inside_is i lt)) ∙ sym (bit_is inside i))
      ∙ (sym (bit_at_xor odds inside i) ∙ (ap (λ (m : ℕ). bit_at m i) counts ∙ has_quotes i lt)) in
      odd_is (is_set odds i) (between i) (is_byte d.quote (byte i)) sums

  states_are : IsDialect d → length block ≡ 64 → (n : ℕ) → n ≤ 64 → state_at d (state_of d place) block n ≡ state n
  states_are sound long n le =
      states_along d block state n (omega (arith, le, long))
      (λ i lt. let low : i < 64 = omega (arith, lt, le) in
      counted_step d sound (between i) (byte_before i) (byte i) (seen i low) (placed i low) ∙ ap (λ (t : Bool). counted t (class_of d (byte i))) (counted_on i low))

  pub block_counted : IsDialect d → length block ≡ 64 → IsCounted d place block inside (record { inside = is_set odds 63; last = byte 63 })
  block_counted sound long = record {
    state = λ i lt. states_are sound long i (omega (arith, lt)) ∙ ap (λ (t : Bool). counted t (class_of d (byte_before i))) (sym (inside_is i lt));
    bare = λ i lt. ap (λ (t : Bool). not t && is_byte d.comment (byte i)) (inside_is i lt)
        ∙ no_comment (between i) (is_byte d.comment (byte i)) (is_byte d.quote (byte_before i)) (is_one_of 10 13 d.delim (byte_before i)) (is_byte d.quote (byte i)) (is_one_of 10 13 d.delim (byte i)) (placed i lt);
    behind = ap (state_after d (state_of d place)) (sym (take_all 64 block (omega (arith, long)))) ∙ states_are sound long 64 (omega arith);
  }

-- where rows begin in it
pub block_begins : (d : Marks) (place : Place) (block : List ℕ) (inside lf cr ends behind_ends behind_cr begins : ℕ) (next : Place) → IsCounted d place block inside next →
    HasBits (λ b. b == 10) block lf → HasBits (λ b. b == 13) block cr → HasBits (λ b. b == 10 || b == 13) block ends →
    ((i : ℕ) → i < 64 → bit_at behind_ends i ≡ bit_behind (place.last == 10 || place.last == 13) ends i) → ((i : ℕ) → i < 64 → bit_at behind_cr i ≡ bit_behind (place.last == 13) cr i) →
    ((i : ℕ) → i < 64 → bit_at begins i ≡ cond (begins_counted (is_set inside i) (is_set behind_ends i) (is_set lf i) (is_set behind_cr i)) 1 0) → HasRowStarts d (state_of d place) block begins
block_begins d place block inside lf cr ends behind_ends behind_cr begins next told has_lf has_cr has_ends after_ends after_cr is_begins i lt =
    let b : ℕ = get_or block i 0 in
    let p : ℕ = get_or (place.last ∷ block) i 0 in
    let end_before : is_set behind_ends i ≡ is_line_end (class_of d p) = told_before (λ b. b == 10 || b == 13) block place.last ends behind_ends i has_ends after_ends lt ∙ line_end_bytes d p in
    let lf_here : is_set lf i ≡ (b == 10) = told_here (λ b. b == 10) block lf i has_lf lt in
    let cr_before : is_set behind_cr i ≡ (p == 13) = told_before (λ b. b == 13) block place.last cr behind_cr i has_cr after_cr lt in
    is_begins i lt
    ∙ (λ j. cond {A = ℕ} (begins_counted (is_set inside i) (end_before j) (lf_here j) (cr_before j)) 1 0)
    ∙ ap (λ (t : Bool). cond {A = ℕ} t 1 0) (sym (counted_begins d (is_set inside i) p b (told.bare i lt)) ∙ ap (λ (s : State). begins_row s (class_of d b)) (sym (told.state i lt)))
