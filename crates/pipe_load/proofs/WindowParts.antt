-- A range's part in its window is its part in the data.
use Rattle.std.proofs.Common.{◌≡◌, ℕ, ◌+◌, ◌-◌, ◌<◌, ◌≤◌, ◌⊎◌, inl, inr, min, List, [], ◌++◌, length, take, drop, sym, ap, ◌∙◌, ⊎_elim, arith, append_assoc, length-take, lt_of_not-le}
use Rattle.std.specs.Prelude.{slice_range}
use Rattle.std.proofs.lemmas.List.{drop-drop, drop_all, take-append-drop}
use mathlib.Core.Logic.{dite}
use native.Mathlib.Decide.{dec_le}
use Rattle.byte_classes.specs.Dialect.{Marks}
use Rattle.quote_automaton.specs.declared.state.State.{State}
use Rattle.range_scan.specs.Part.{Judge, part_of, LooksAtMost}
use Rattle.range_scan.proofs.WindowLaws.{window_suffices}

-- where range n of window k lies: p is the place of the window's first range in the data, a that of range n in the window's ranges
module _ (stride size reach text_length start lead p a bytes : ℕ)
    (at : start + lead ≡ p) (one : lead ≤ 1) (inside : p < text_length) (some : 0 < size) (far : 0 < reach)
    (bytes_are : bytes ≡ min (lead + stride + reach) (text_length - start)) (below : a < min stride (text_length - p)) (fits : a + size ≤ stride) where
  abbrev pub from : ℕ
  from = min bytes lead + a

  abbrev pub to : ℕ
  to = min bytes lead + min (a + size) (min stride (bytes - min bytes lead))

  pub begins : start + from ≡ p + a
  begins = omega arith

  pub ends : start + to ≡ min (p + a + size) text_length
  ends = omega arith

  pub ordered : from ≤ to
  ordered = omega arith

  pub within : to ≤ bytes
  within = omega arith

  pub reaches : (text_length ≤ start + (lead + stride + reach)) ⊎ (to + (reach - 1) < bytes)
  reaches = dite (dec_le text_length (start + (lead + stride + reach))) (λ e. inl (omega (arith, e))) (λ e. inr (omega (arith, lt_of_not-le e)))

-- a list is what stands before a part of it, the part, and the rest
in_three : (xs : List ℕ) (a m : ℕ) → take a xs ++ slice_range xs a (a + m) ++ drop (a + m) xs ≡ xs
in_three xs a m =
    let count : a + m - a ≡ m = omega arith in
    append_assoc (take a xs) (slice_range xs a (a + m)) (drop (a + m) xs)
    ∙ (λ i. take a xs ++ (take (count i) (drop a xs) ++ sym (drop-drop m a xs) i))
    ∙ ap (λ ys. take a xs ++ ys) (take-append-drop m (drop a xs))
    ∙ take-append-drop a xs

pub in_text : {C F : Type 0} (judge : Judge C F) (most : ℕ) → LooksAtMost most judge → (d : Marks) (text : List ℕ) (base start m from to : ℕ) (s : State) →
    start ≤ length text → from ≤ to → to ≤ length (slice_range text start (start + m)) → (start ≡ 0) ⊎ (0 < from) →
    (length text ≤ start + m) ⊎ (to + most < length (slice_range text start (start + m))) →
    part_of judge d (slice_range text start (start + m)) (base + start) from to s ≡ part_of judge d text base (start + from) (start + to) s
in_text judge most looks d text base start m from to s inside from_to within led reach =
    let lead : List ℕ = take start text in
    let window : List ℕ = slice_range text start (start + m) in
    let tail : List ℕ = drop (start + m) text in
    let len : length lead ≡ start = omega (arith, length-take start text, inside) in
    let no_lead : (lead ≡ []) ⊎ (0 < from) = ⊎_elim (λ (e : start ≡ 0). inl (ap (λ n. take n text) e)) (λ (h : 0 < from). inr h) led in
    let no_tail : (tail ≡ []) ⊎ (to + most < length window) = ⊎_elim (λ (e : length text ≤ start + m). inl (drop_all (start + m) text e)) (λ (h : to + most < length window). inr h) reach in
    ap (λ n. part_of judge d window (base + n) from to s) (sym len)
    ∙ sym (window_suffices judge most looks d lead window tail base from to s from_to within no_lead no_tail)
    ∙ (λ i. part_of judge d (in_three text start m i) base (len i + from) (len i + to) s)
