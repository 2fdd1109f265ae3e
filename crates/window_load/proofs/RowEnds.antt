-- A range's part in a window in which a row begins behind the range: then each row of the range ends in the window, whatever comes later.
use Rattle.std.proofs.Common.{◌≡◌, ℕ, zero, suc, ◌+◌, ◌-◌, ◌<◌, ◌≤◌, true, cond, List, [], ◌∷◌, ◌++◌, map, length, take, drop, get_or, refl, sym, ◌∙◌, ap, subst, arith, length-take, length-drop, length-append}
use Rattle.std.specs.Prelude.{Option, Some, None, find, flat_map, option_map, is_some, slice_range}
use Rattle.std.specs.List.{last_or}
use Rattle.std.proofs.lemmas.List.{take-append-le, drop-append-le, take-append-drop, take_all, get_or-append-add}
use Rattle.std.proofs.Math.Seq.{drop-append-add}
use Rattle.byte_classes.specs.Dialect.{Marks}
use Rattle.byte_classes.specs.Class.{class_of}
use Rattle.byte_classes.specs.LineEnds.{line_ends}
use Rattle.byte_classes.specs.Places.{places, byte_before}
use Rattle.byte_classes.proofs.PlaceLaws.{by_find}
use Rattle.quote_automaton.specs.declared.state.State.{State}
use Rattle.quote_automaton.specs.Automaton.{step, state_after}
use Rattle.quote_automaton.specs.Rows.{begins_row, ends_row, first_row_start, is_row_start, row_at, row_starts}
use Rattle.quote_automaton.proofs.RowBegins.{begins_behind_end}
use Rattle.quote_automaton.proofs.RowLaws.{map-filter_range, row_at-cons_suc, row_at-cons_zero, state_at-append}
use Rattle.reject_book.specs.Verdict.{cells_of, faults_of}
use Rattle.range_scan.specs.Part.{Judge, part_of, verdict_at}

-- a row is the same with more behind its bytes, where another one begins in them
row_more : (d : Marks) (s : State) (ys zs : List ℕ) (q : ℕ) → 0 < q → q < length ys → is_row_start d s ys q ≡ true → row_at d s (ys ++ zs) 0 ≡ row_at d s ys 0
row_more d s [] zs q some inside starts = absurd (let no : ⊥ = omega (arith, inside) in no)
row_more d s (y ∷ ys) zs zero some inside starts = absurd (let no : ⊥ = omega (arith, some) in no)
row_more d s (y ∷ ys) zs (suc zero) some inside starts =
    let ends : ends_row s (class_of d y) ≡ true = begins_behind_end d s (class_of d y) (class_of d (get_or ys 0 0)) starts in
    row_at-cons_zero d s y (ys ++ zs)
    ∙ ap (λ c. cond c [] (y ∷ row_at d (step d s y) (ys ++ zs) 0)) ends
    ∙ sym (ap (λ c. cond c [] (y ∷ row_at d (step d s y) ys 0)) ends)
    ∙ sym (row_at-cons_zero d s y ys)
row_more d s (y ∷ ys) zs (suc (suc q)) some inside starts =
    let below : suc q < length ys = omega (arith, inside) in
    row_at-cons_zero d s y (ys ++ zs)
    ∙ ap (λ r. cond (ends_row s (class_of d y)) [] (y ∷ r)) (row_more d (step d s y) ys zs (suc q) (omega arith) below starts)
    ∙ sym (row_at-cons_zero d s y ys)

row_more_at : (d : Marks) (s : State) (bytes zs : List ℕ) (p q : ℕ) → p < q → q < length bytes → is_row_start d s bytes q ≡ true → row_at d s (bytes ++ zs) p ≡ row_at d s bytes p
row_more_at d s bytes zs zero q before inside starts = row_more d s bytes zs q before inside starts
row_more_at d s [] zs (suc p) q before inside starts = absurd (let no : ⊥ = omega (arith, inside) in no)
row_more_at d s (b ∷ bytes) zs (suc p) zero before inside starts = absurd (let no : ⊥ = omega (arith, before) in no)
row_more_at d s (b ∷ bytes) zs (suc p) (suc q) before inside starts =
    let less : p < q = omega (arith, before) in
    let below : q < length bytes = omega (arith, inside) in
    row_at-cons_suc d s b (bytes ++ zs) p ∙ row_more_at d (step d s b) bytes zs p q less below starts ∙ sym (row_at-cons_suc d s b bytes p)

-- a row start that was found
found : (d : Marks) (s : State) (bytes : List ℕ) → is_some (find (is_row_start d s bytes) (places bytes)) ≡ true → (q : ℕ) × (q < length bytes) × (is_row_start d s bytes q ≡ true)
found d s bytes = by_find (λ (o : Option ℕ). is_some o ≡ true → (q : ℕ) × (q < length bytes) × (is_row_start d s bytes q ≡ true)) (is_row_start d s bytes) 0 (length bytes)
    (λ wrong. absurd (let no : ⊥ = cc in no)) (λ q starts below yes. (q, (let inside : q < length bytes = omega (arith, below) in inside), starts))

is_some-raised : (n : ℕ) (o : Option ℕ) → is_some (option_map (λ p. n + p) o) ≡ is_some o
is_some-raised n None = refl
is_some-raised n (Some p) = refl

module _ {C F : Type 0} (judge : Judge C F) (d : Marks) (window tail : List ℕ) (base from to : ℕ) (s : State) (ordered : from ≤ to) (within : to ≤ length window) where
  abbrev rest : List ℕ
  rest = drop from window

  abbrev span : List ℕ
  span = slice_range window from to

  abbrev behind : List ℕ
  behind = slice_range window to (length window)

  from_within : from ≤ length window
  from_within = omega (arith, ordered, within)

  rest-more : drop from (window ++ tail) ≡ rest ++ tail
  rest-more = drop-append-le from window tail from_within

  span_fits : to - from ≤ length rest
  span_fits = omega (arith, length-drop from window, within)

  span-more : slice_range (window ++ tail) from to ≡ span
  span-more = ap (take (to - from)) rest-more ∙ take-append-le (to - from) rest tail span_fits

  span_length : length span ≡ to - from
  span_length = omega (arith, length-take (to - from) rest, span_fits)

  before-more : byte_before (window ++ tail) from ≡ byte_before window from
  before-more = ap (last_or None) (take-append-le from window tail from_within)

  -- where a row begins behind the range
  module _ (q : ℕ) (past : to - from ≤ q) (inside : q < length rest) (starts : is_row_start d s rest q ≡ true) where
    same_verdict : (k : ℕ) → k < 0 + length span → verdict_at judge d (byte_before window from) (base + from) (rest ++ tail) s k ≡ verdict_at judge d (byte_before window from) (base + from) rest s k
    same_verdict k lt =
        let before : k < q = omega (arith, lt, span_length, past) in
        let there : k ≤ length rest = omega (arith, before, inside) in
        let front : take k (rest ++ tail) ≡ take k rest = take-append-le k rest tail there in
        let row : row_at d s (rest ++ tail) k ≡ row_at d s rest k = row_more_at d s rest tail k q before inside starts in
        λ i. judge (1 + line_ends (byte_before window from) (front i)) ((base + from) + k) (row i)

    decided_at : part_of judge d (window ++ tail) base from to s ≡ part_of judge d window base from to s
    decided_at =
        let each = map-filter_range (verdict_at judge d (byte_before window from) (base + from) (rest ++ tail) s) (verdict_at judge d (byte_before window from) (base + from) rest s) (is_row_start d s span) 0 (length span) same_verdict in
        (λ i. record {
          end = state_after d s (span-more i);
          cells = flat_map cells_of (map (verdict_at judge d (before-more i) (base + from) (rest-more i) s) (row_starts d s (span-more i)));
          faults = flat_map faults_of (map (verdict_at judge d (before-more i) (base + from) (rest-more i) s) (row_starts d s (span-more i)));
          line_ends = line_ends (before-more i) (span-more i);
        })
        ∙ (λ i. record { end = state_after d s span; cells = flat_map cells_of (each i); faults = flat_map faults_of (each i); line_ends = line_ends (byte_before window from) span })

  rest_is : rest ≡ span ++ behind
  rest_is =
      let lead : length (take from window) ≡ from = omega (arith, length-take from window, from_within) in
      let place : length (take from window) + (to - from) ≡ to = omega (arith, lead, ordered) in
      let left : drop (to - from) rest ≡ drop to window =
      sym (drop-append-add (take from window) rest (to - from)) ∙ (λ i. drop (place i) (take-append-drop from window i)) in
      let whole : behind ≡ drop to window = take_all (length window - to) (drop to window) (omega (arith, length-drop to window)) in
      sym (take-append-drop (to - from) rest) ∙ ap (λ ys. span ++ ys) (left ∙ sym whole)

  -- where one is found there, read on from the range's end
  pub decided : is_some (first_row_start d (state_after d s (slice_range window from to)) window to (length window)) ≡ true →
      part_of judge d (window ++ tail) base from to s ≡ part_of judge d window base from to s
  decided some =
      let one = found d (state_after d s span) behind (sym (is_some-raised to (find (is_row_start d (state_after d s span) behind) (places behind))) ∙ some) in
      let q : ℕ = length span + one.0 in
      let starts : is_row_start d s (span ++ behind) q ≡ true =
      (λ i. begins_row (state_at-append d s span behind one.0 i) (class_of d (get_or-append-add span behind one.0 0 i))) ∙ one.2 in
      let inside : q < length rest = omega (arith, one.1, ap length rest_is, length-append span behind) in
      decided_at q (omega (arith, span_length)) inside (subst (λ bs. is_row_start d s bs q ≡ true) (sym rest_is) starts)
