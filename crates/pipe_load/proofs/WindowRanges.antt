-- The ranges of a window are joined as ranges of the data.
use Rattle.std.proofs.Common.{◌≡◌, ℕ, zero, suc, ◌+◌, ◌-◌, ◌*◌, ◌<◌, ◌≤◌, ◌⊎◌, inl, inr, min, List, [], ◌∷◌, length, map, take, drop, refl, sym, ap, ◌∙◌, subst, arith, length-take, length-drop, lt_of_not-le}
use Rattle.std.specs.Prelude.{None, slice_range}
use Rattle.std.specs.List.{range_with_len, last_or}
use Rattle.std.proofs.Math.Nat.{mul-le-mul_right}
use Rattle.std.proofs.Math.Seq.{take-add}
use Rattle.std.proofs.lemmas.List.{drop-drop, drop-take, take-take}
use mathlib.Core.Logic.{dite}
use native.Mathlib.Decide.{dec_le}
use Rattle.byte_classes.proofs.LineEndLaws.{last_or-append, last_or-some}
use Rattle.quote_automaton.specs.declared.state.State.{State}
use Rattle.range_guess.specs.Guess.{guess}
use Rattle.byte_classes.specs.Places.{byte_before}
use Rattle.range_guess.specs.Rescans.{range_bytes}
use Rattle.range_guess.specs.Span.{guess_of, opening_in}
use Rattle.range_guess.specs.Stretch.{span_of}
use Rattle.range_guess.proofs.CutLaws.{count_before}
use Rattle.range_scan.specs.declared.context.Context.{Context}
use Rattle.range_scan.specs.declared.joined.Joined.{Joined}
use Rattle.range_guess.specs.declared.span.Span.{Span}
use Rattle.range_guess.specs.declared.stretch.Stretch.{Stretch}
use Rattle.range_scan.specs.Part.{part_of}
use Rattle.range_scan.specs.Ranges.{AddsSpan, IsJoinedTo, ranges_end}
use Rattle.range_scan.specs.Scanned.{Scanned, judge_in, span_part}
use Rattle.range_scan.proofs.JudgeLaws.{first_bytes_decide}
use Rattle.range_scan.proofs.RangeSteps.{next_range}
use Rattle.pipe_load.specs.declared.layout.Layout.{Layout}
use Rattle.pipe_load.specs.declared.window.Window.{Window}
use Rattle.pipe_load.specs.Joining.{AddsRanges}
use Rattle.pipe_load.specs.Layout.{IsLayout, stride, want, window_start, window_of, base_of, stretch_of, stretch_len}
use Rattle.pipe_load.proofs.CuttingLaws.{some_stride}
use Rattle.pipe_load.proofs.WindowParts.{begins, ends, ordered, within, reaches, in_text}

-- a range of a window is joined behind those before it
abbrev pub AddsNext : Context → List ℕ → ℕ → Span → Joined → Joined → Type 0
AddsNext context bytes base span old new = AddsSpan context bytes base span (opening_in context.dialect bytes span old.end) old new

pub lead_at : (k s : ℕ) → 0 < s → (k * s - 1) + min k 1 ≡ k * s
lead_at zero s some = omega arith
lead_at (suc k) s some = let more : (suc k) * s ≡ k * s + s = omega arith in omega (arith, more, some)

-- a range of a window is followed by its end in the window
next_fits : (n r z : ℕ) → n * z < r * z → n * z + z ≤ r * z
next_fits n r z lt = dite (dec_le r n)
    (λ le. let far : r * z ≤ n * z = mul-le-mul_right z le in absurd (let never : ⊥ = omega (arith, far, lt) in never))
    (λ not_le. let more : n + 1 ≤ r = omega (arith, lt_of_not-le not_le) in let e : (n + 1) * z ≡ n * z + z = omega arith in omega (arith, mul-le-mul_right z more, e))

-- a part of a part of a list
slice_within : (xs : List ℕ) (a m f t : ℕ) → f ≤ t → t ≤ m → slice_range (slice_range xs a (a + m)) f t ≡ slice_range xs (a + f) (a + t)
slice_within xs a m f t f_t t_m =
    let count : a + m - a ≡ f + (m - f) = omega (arith, f_t, t_m) in
    let fewer : t - f ≤ m - f = omega (arith, t_m) in
    let width : t - f ≡ a + t - (a + f) = omega arith in
    ap (λ n. take (t - f) (drop f (take n (drop a xs)))) count
    ∙ ap (take (t - f)) (drop-take f (m - f) (drop a xs))
    ∙ take-take (t - f) (m - f) (drop f (drop a xs)) fewer
    ∙ (λ i. take (width i) (drop-drop f a xs i))

-- the byte before a place of a part of a list
before_within : (xs : List ℕ) (a m f : ℕ) → f ≤ m → f ≤ length xs - a → (a ≡ 0) ⊎ (0 < f) → byte_before (slice_range xs a (a + m)) f ≡ byte_before xs (a + f)
before_within xs a m f f_m inside led =
    let count : a + m - a ≡ m = omega arith in
    let front : take f (slice_range xs a (a + m)) ≡ take f (drop a xs) = ap (λ n. take f (take n (drop a xs))) count ∙ take-take f m (drop a xs) f_m in
    ap (last_or None) front ∙ elim led as (λ _. last_or None (take f (drop a xs)) ≡ byte_before xs (a + f)) [
      | inl e ↦ (λ i. last_or None (take f (drop (e i) xs))) ∙ ap (λ n. last_or None (take n xs)) (let same : f ≡ a + f = omega (arith, e) in same)
      | inr some ↦ (let long : 0 < length (take f (drop a xs)) = omega (arith, some, inside, length-take f (drop a xs), length-drop a xs) in
          sym (last_or-some (last_or None (take a xs)) (take f (drop a xs)) long) ∙ sym (last_or-append None (take a xs) (take f (drop a xs))) ∙ ap (last_or None) (sym (take-add a f xs)))
    ]

module _ (context : Context) (l : Layout) (layout : IsLayout l) (text : List ℕ) (k n : ℕ) (inside : (l.before + k) * stride l < length text) (reach : l.reach ≡ context.schema.max_line_size + 1)
    (below : n < stretch_len l (window_of l text k)) where
  abbrev r : ℕ
  r = l.ranges

  abbrev z : ℕ
  z = l.range_size

  abbrev s : ℕ
  s = stride l

  abbrev j : ℕ
  j = (l.before + k) * r + n

  abbrev w : Window
  w = window_of l text k

  abbrev start : ℕ
  start = window_start l k

  abbrev lead : ℕ
  lead = min (l.before + k) 1

  abbrev size : ℕ
  size = length w.bytes

  abbrev st : Stretch
  st = stretch_of l w

  abbrev span : Span
  span = span_of st n

  some : 0 < s
  some = some_stride l layout

  at : start + lead ≡ (l.before + k) * s
  at = lead_at (l.before + k) s some

  one : lead ≤ 1
  one = omega arith

  far : 0 < l.reach
  far = omega (arith, reach)

  size_is : size ≡ min (lead + s + l.reach) (length text - start)
  size_is = let count : start + want l k - start ≡ lead + s + l.reach = omega arith in omega (arith, count, length-take (start + want l k - start) (drop start text), length-drop start text)

  covered : st.to - st.from ≡ min s (size - min size lead)
  covered = omega arith

  covered_is : min s (size - min size lead) ≡ min s (length text - (l.before + k) * s)
  covered_is = let p = at in let q = inside in let b = size_is in let f = far in omega (arith, p, q, b, f)

  before : n * z < min s (length text - (l.before + k) * s)
  before = let c = count_before (st.to - st.from) z n layout.some below in omega (arith, c, covered, covered_is)

  fits : n * z + z ≤ s
  fits = let b = before in next_fits n r z (omega (arith, b))

  to_is : span.to ≡ min size lead + min (n * z + z) (min s (size - min size lead))
  to_is = let e : (n + 1) * z ≡ n * z + z = omega arith in let c = covered in omega (arith, e, c)

  begins_at : start + span.from ≡ (l.before + k) * s + n * z
  begins_at = begins s z l.reach (length text) start lead ((l.before + k) * s) (n * z) size at one inside layout.some far size_is before fits

  ends_at : start + span.to ≡ min ((l.before + k) * s + n * z + z) (length text)
  ends_at = ap (λ t. start + t) to_is ∙ ends s z l.reach (length text) start lead ((l.before + k) * s) (n * z) size at one inside layout.some far size_is before fits

  from_to : span.from ≤ span.to
  from_to = let o = ordered s z l.reach (length text) start lead ((l.before + k) * s) (n * z) size at one inside layout.some far size_is before fits in omega (arith, o, to_is)

  to_within : span.to ≤ size
  to_within = let o = within s z l.reach (length text) start lead ((l.before + k) * s) (n * z) size at one inside layout.some far size_is before fits in omega (arith, o, to_is)

  -- range j of the data begins there
  place : j * z ≡ (l.before + k) * s + n * z
  place = omega arith

  next_place : (j + 1) * z ≡ (l.before + k) * s + n * z + z
  next_place = omega arith

  pub in_data : j * z ≤ length text
  in_data = let p = place in let b = before in omega (arith, p, b)

  front_is : start + span.from ≡ ranges_end text z j
  front_is = let p = place in let b = before in let a = begins_at in omega (arith, p, b, a)

  next_is : start + span.to ≡ ranges_end text z (j + 1)
  next_is = ends_at ∙ ap (λ m. min m (length text)) (sym next_place)

  led : (start ≡ 0) ⊎ (0 < span.from)
  led = by_number (l.before + k) refl
    where
      by_number : (i : ℕ) → i ≡ l.before + k → (start ≡ 0) ⊎ (0 < span.from)
      by_number zero e = let none : (l.before + k) * s ≡ 0 = ap (λ m. m * s) (sym e) ∙ (let z0 : 0 * s ≡ 0 = omega arith in z0) in inl (omega (arith, none))
      by_number (suc i) e = let b = begins_at in let p = at in let l1 : lead ≡ 1 = omega (arith, e) in inr (omega (arith, b, p, l1))

  reached : (length text ≤ start + want l k) ⊎ (span.to + context.schema.max_line_size < size)
  reached = elim (reaches s z l.reach (length text) start lead ((l.before + k) * s) (n * z) size at one inside layout.some far size_is before fits) [
    | inl e ↦ inl (omega (arith, e))
    | inr e ↦ inr (omega (arith, e, reach, to_is))
  ]

  start_inside : start ≤ length text
  start_inside = let p = at in let q = inside in omega (arith, p, q)

  pub part_is : (o : State) → span_part context w.bytes (base_of l w) span o ≡ part_of (judge_in context) context.dialect text l.data_start (ranges_end text z j) (ranges_end text z (j + 1)) o
  part_is o =
      in_text (judge_in context) context.schema.max_line_size (first_bytes_decide context.dialect context.schema context.scan_id context.file_id) context.dialect text l.data_start start (want l k) span.from span.to o
      start_inside from_to to_within led reached
      ∙ (λ i. part_of (judge_in context) context.dialect text l.data_start (front_is i) (next_is i) o)

  pub width_is : span.to - span.from ≡ length (range_bytes text z j)
  width_is = let a = begins_at in let b = ends_at in let p = place in let q = next_place in let d = in_data in
      omega (arith, a, b, p, q, d, length-take (min ((j + 1) * z) (length text) - j * z) (drop (j * z) text), length-drop (j * z) text)

  bytes_are : slice_range w.bytes span.from span.to ≡ range_bytes text z j
  bytes_are =
      let few : span.to ≤ want l k = let t = to_within in let b = size_is in omega (arith, t, b) in
      let from_place : start + span.from ≡ j * z = begins_at ∙ sym place in
      slice_within text start (want l k) span.from span.to from_to few ∙ (λ i. slice_range text (from_place i) (next_is i))

  byte_is : byte_before w.bytes span.from ≡ byte_before text (j * z)
  byte_is =
      let few : span.from ≤ want l k = let t = to_within in let b = size_is in let f = from_to in omega (arith, t, b, f) in
      let here : span.from ≤ length text - start = let t = to_within in let b = size_is in let f = from_to in omega (arith, t, b, f) in
      let from_place : start + span.from ≡ j * z = begins_at ∙ sym place in
      before_within text start (want l k) span.from few here led ∙ ap (byte_before text) from_place

  pub guess_is : guess_of context.dialect w.bytes span ≡ guess context.dialect (range_bytes text z j) (byte_before text (j * z))
  guess_is = λ i. guess context.dialect (bytes_are i) (byte_is i)

  pub next_of_window : (old new : Joined) → IsJoinedTo context text l.data_start z j old → AddsNext context w.bytes (base_of l w) span old new → IsJoinedTo context text l.data_start z (j + 1) new
  next_of_window old new h adds = next_range context text l.data_start z j in_data old h w.bytes (base_of l w) span (part_is old.end) width_is refl guess_is new adds

-- one range more of a window
pub adds_more : (context : Context) (l : Layout) (w : Window) (n : ℕ) (old mid new : Joined) → IsLayout l → n < stretch_len l w →
    AddsRanges context l w n old mid → AddsNext context w.bytes (base_of l w) (span_of (stretch_of l w) n) mid new → AddsRanges context l w (n + 1) old new
adds_more context l w n old mid new layout below h adds = record {
  types = adds.adds.types ∙ h.types;
  keep = ap (λ b. b.keep) adds.adds.book ∙ h.keep;
  joins = λ text k is begins reach before.
      let same : (l.before + k) * l.ranges + n + 1 ≡ (l.before + k) * l.ranges + (n + 1) = omega arith in
      let under : n < stretch_len l (window_of l text k) = subst (λ (x : Window). n < stretch_len l x) is below in
      let added : AddsNext context (window_of l text k).bytes (base_of l (window_of l text k)) (span_of (stretch_of l (window_of l text k)) n) mid new =
      subst (λ (x : Window). AddsNext context x.bytes (base_of l x) (span_of (stretch_of l x) n) mid new) is adds in
      subst (λ j. IsJoinedTo context text l.data_start l.range_size j new) same
      (next_of_window context l layout text k n begins reach under mid new (h.joins text k is begins reach before) added);
}

-- no range yet
pub adds_none : (context : Context) (l : Layout) (w : Window) (old : Joined) → old.table.types ≡ context.schema.types → old.book.keep ≡ context.keep → AddsRanges context l w 0 old old
adds_none context l w old types keep = record {
  types = types;
  keep = keep;
  joins = λ text k is begins reach before. let same : (l.before + k) * l.ranges ≡ (l.before + k) * l.ranges + 0 = omega arith in subst (λ j. IsJoinedTo context text l.data_start l.range_size j old) same before;
}

-- the next part, and those behind it
pub parts_next : (f : ℕ → Scanned) (n : ℕ) (parts : List Scanned) → parts ≡ map f (range_with_len n (length parts)) → drop 1 parts ≡ map f (range_with_len (n + 1) (length (drop 1 parts)))
parts_next f n [] e = refl
parts_next f n (x ∷ parts) e = ap (drop 1) e
