-- All windows are joined, one after another.
use Rattle.std.proofs.Common.{◌≡◌, ℕ, zero, suc, ◌+◌, ◌-◌, ◌*◌, ◌/◌, ◌<◌, ◌≤◌, ◌^◌, min, List, ◌++◌, length, map, drop, get_or, All, sym, ap, ◌∙◌, subst, arith, length-append, length-take, length-drop}
use Rattle.std.specs.List.{range_with_len}
use Rattle.std.proofs.Math.Nat.{mul-le-mul_left, mul-le-mul_right, le_of_mul-le-mul_right}
use Rattle.std.proofs.lemmas.List.{get_or-append-add, get_or_default}
use mathlib.Core.Option.{some, some-injective, some-ne-none}
use lib.ListN.{get_elem?}
use Rattle.crossbeam_queue.proofs.Lists.{at_index}
use Rattle.pipe_load.specs.Feeding.{AreNumbered}
use Rattle.load_options.specs.declared.limits.TheConstants.{MAX_LINE_SIZE, RANGE_SIZE}
use Rattle.quote_automaton.specs.declared.state.State.TheVariants.{RowStart}
use Rattle.range_guess.specs.Cut.{range_count}
use Rattle.range_scan.specs.declared.context.Context.{Context}
use Rattle.range_scan.specs.declared.joined.Joined.{Joined}
use Rattle.range_scan.specs.Ranges.{IsJoinedTo}
use Rattle.range_scan.specs.Joined.{IsJoinedPart, IsBegun}
use Rattle.range_scan.specs.Part.{Part}
use Rattle.range_guess.proofs.CutLaws.{count_covers, count_less, count_at_most}
use Rattle.value_types.specs.Datum.{Datum}
use Rattle.reject_book.specs.declared.reject.Reject.{Reject}
use Rattle.pipe_load.specs.declared.layout.Layout.{Layout}
use Rattle.pipe_load.specs.declared.window.Window.{Window}
use Rattle.pipe_load.specs.Joining.{AddsRanges, ranges_before}
use Rattle.window_load.specs.DataRead.{IsDataRead, data_read}
use Rattle.range_scan.proofs.RangeSteps.{begun, all_ranges}
use Rattle.pipe_load.specs.Layout.{IsLayout, stride, want, window_start, window_of, windows_of, stretch_of, stretch_len, layout_of, turned}
use Rattle.pipe_load.specs.PassViews.{IsOneOf}
use Rattle.pipe_load.proofs.CuttingLaws.{some_stride}
use Rattle.pipe_load.proofs.WindowRanges.{lead_at}

-- an entry of a list of what a function gives
at_map : {A : Type 0} (f : ℕ → A) (a n k : ℕ) (x : A) → get_elem? (map f (range_with_len a n)) k ≡ some x → x ≡ f (a + k)
at_map f a zero k x e = absurd (some-ne-none x (sym e))
at_map f a (suc n) zero x e = sym (some-injective (f a) x e) ∙ ap f (let s : a ≡ a + zero = omega arith in s)
at_map f a (suc n) (suc k) x e = at_map f (a + 1) n k x e ∙ ap f (let s : a + 1 + k ≡ a + suc k = omega arith in s)

-- a window of a list of windows of the data is the one of its number
pub one_is : (l : Layout) (text : List ℕ) (made : List Window) (count k : ℕ) (w : Window) → made ≡ windows_of l text count → IsOneOf made w → w.number ≡ k → w ≡ window_of l text k
one_is l text made count k w is one number =
    at_map (window_of l text) 0 count w.number w (subst (λ ws. get_elem? ws w.number ≡ some w) is one) ∙ ap (window_of l text) (let s : 0 + w.number ≡ k = omega (arith, number) in s)

-- each window of a round begins before the end of the data, where the last one does
pub begins_before : (s before count k n : ℕ) → k < count → (0 < before + count → (before + count - 1) * s < n) → (before + k) * s < n
begins_before s before count k n lt begun =
    let last : before + k ≤ before + count - 1 = omega (arith, lt) in
    let there = begun (omega (arith, lt)) in
    omega (arith, mul-le-mul_right s last, there)

module _ (context : Context) (l : Layout) (layout : IsLayout l) (text : List ℕ) where
  abbrev r : ℕ
  r = l.ranges

  abbrev z : ℕ
  z = l.range_size

  abbrev all : ℕ
  all = range_count (length text) z

  -- the ranges before a window that begins in the data
  before_window : (k : ℕ) → (l.before + k) * stride l < length text → (l.before + k) * r ≤ all
  before_window k inside =
      let inside_ranges : (l.before + k) * r * z ≤ length text = omega (arith, inside) in
      let few : (l.before + k) * r * z ≤ all * z = omega (arith, inside_ranges, count_covers (length text) z layout.some) in
      le_of_mul-le-mul_right few layout.some

  -- how many ranges window k has
  ranges_of : (k : ℕ) → (l.before + k) * stride l < length text → 0 < l.reach → (l.before + k) * r + stretch_len l (window_of l text k) ≡ ranges_before l text (k + 1)
  ranges_of k inside far =
      let start : ℕ = window_start l k in
      let p : ℕ = l.before + k in
      let size : ℕ = length ((window_of l text k).bytes) in
      let size_is : size ≡ min (min p 1 + stride l + l.reach) (length text - start) =
      (let count : start + want l k - start ≡ min p 1 + stride l + l.reach = omega arith in omega (arith, count, length-take (start + want l k - start) (drop start text), length-drop start text)) in
      let lead : start + min p 1 ≡ p * stride l = lead_at p (stride l) (some_stride l layout) in
      let covered : (stretch_of l (window_of l text k)).to - (stretch_of l (window_of l text k)).from ≡ min (r * z) (length text - p * r * z) = omega (arith, size_is, lead, inside, far) in
      let inside_ranges : p * r * z ≤ length text = omega (arith, inside) in
      let below : p * r ≤ all = before_window k inside in
      let count : stretch_len l (window_of l text k) ≡ min r (all - p * r) =
      ap (λ n. range_count n z) covered ∙ count_at_most (length text - p * r * z) z r layout.some ∙ ap (min r) (count_less (length text) z (p * r) layout.some inside_ranges) in
      let next : (l.before + (k + 1)) * r ≡ p * r + r = omega arith in
      omega (arith, count, below, next)

  -- one window more
  pub next_window : (k : ℕ) (w : Window) (old new : Joined) → w ≡ window_of l text k → (l.before + k) * stride l < length text → l.reach ≡ context.schema.max_line_size + 1 →
      AddsRanges context l w (stretch_len l w) old new → IsJoinedTo context text l.data_start z (ranges_before l text k) old → IsJoinedTo context text l.data_start z (ranges_before l text (k + 1)) new
  next_window k w old new is inside reach adds h =
      let far : 0 < l.reach = omega (arith, reach) in
      let here : ranges_before l text k ≡ (l.before + k) * r = (let le = before_window k inside in omega (arith, le)) in
      let before : IsJoinedTo context text l.data_start z ((l.before + k) * r) old = subst (λ j. IsJoinedTo context text l.data_start z j old) here h in
      let there : (l.before + k) * r + stretch_len l w ≡ ranges_before l text (k + 1) = ap (λ (x : Window). (l.before + k) * r + stretch_len l x) is ∙ ranges_of k inside far in
      subst (λ j. IsJoinedTo context text l.data_start z j new) there (adds.joins text k is inside reach before)

  -- no window yet
  pub first_window : (new : Joined) → l.before ≡ 0 → IsBegun context RowStart new → IsJoinedTo context text l.data_start z (ranges_before l text 0) new
  first_window new first h =
      let place : l.before + 0 ≡ 0 = omega (arith, first) in
      let none : ranges_before l text 0 ≡ 0 = (let e : (l.before + 0) * r ≡ 0 * r = ap (λ m. m * r) place in let o : 0 * r ≡ 0 = omega arith in omega (arith, e, o)) in
      subst (λ j. IsJoinedTo context text l.data_start z j new) (sym none) (begun context text l.data_start z new h)

  -- a round is followed by the next one
  pub next_round : (n : ℕ) (new : Joined) → IsJoinedTo context text l.data_start z (ranges_before l text n) new → IsJoinedTo context text l.data_start z (ranges_before (turned l n) text 0) new
  next_round n new h = let same : l.before + n ≡ l.before + n + 0 = omega arith in subst (λ m. IsJoinedTo context text l.data_start z (min (m * r) all) new) same h

  -- all windows
  pub last_window : (count : ℕ) (new : Joined) → length text ≤ (l.before + count) * stride l → IsJoinedTo context text l.data_start z (ranges_before l text count) new → IsJoinedTo context text l.data_start z all new
  last_window count new covered h =
      let at_most : all ≤ (l.before + count) * r = count_within_all in
      subst (λ j. IsJoinedTo context text l.data_start z j new) (let e : ranges_before l text count ≡ all = omega (arith, at_most) in e) h
    where
      p : ℕ
      p = l.before + count

      count_within_all : all ≤ p * r
      count_within_all = let text_is : length text ≡ min (p * r * z) (length text) = omega (arith, covered) in
          let e : all ≡ min (p * r) all = ap (λ n. range_count n z) text_is ∙ count_at_most (length text) z (p * r) layout.some in omega (arith, e)

  -- all ranges are the data
  pub all_read : (joined : Joined) (count : ℕ) → count ≡ length text → IsJoinedTo context text l.data_start z all joined → IsDataRead context text l.data_start z (data_read joined count z)
  all_read joined count counted h = record {
    part = subst (λ (p : Part (List Datum) Reject). IsJoinedPart context p joined) (all_ranges context text l.data_start z layout.some) h.part;
    bytes = counted;
    ranges = ap (λ n. range_count n z) counted;
    rescanned_ranges = h.rescans;
    scanned = ap (λ n. length text + n) h.rescanned;
  }

-- windows that wait have the numbers behind those that were put, and are among those that were made
pub number_behind : (put waiting : List Window) → AreNumbered (put ++ waiting) → (k : ℕ) (d : Window) → k < length waiting → (get_or waiting k d).number ≡ length put + k
number_behind put waiting h k d lt =
    ap (λ (w : Window). w.number) (sym (get_or-append-add put waiting k d)) ∙ h (length put + k) d (let e : length put + k < length (put ++ waiting) = omega (arith, lt, length-append put waiting) in e)

pub waiting_is_made : (put waiting : List Window) → AreNumbered (put ++ waiting) → All (IsOneOf (put ++ waiting)) waiting
waiting_is_made put waiting h k d lt =
    let w : Window = get_or waiting k d in
    let number : w.number ≡ length put + k = number_behind put waiting h k d lt in
    let within : length put + k < length (put ++ waiting) = omega (arith, lt, length-append put waiting) in
    let here : w ≡ get_or (put ++ waiting) (length put + k) w = sym (get_or-append-add put waiting k w ∙ get_or_default waiting k (get_or waiting k d) d lt) in
    ap (get_elem? (put ++ waiting)) number ∙ at_index (put ++ waiting) (length put + k) w within here

-- the layout of a load within its limits
pub layout_lies : (data_start size line : ℕ) → 0 < size → size ≤ RANGE_SIZE.most → line ≤ MAX_LINE_SIZE.most → data_start ≤ 2 ^ 32 → IsLayout (layout_of data_start size line)
layout_lies data_start size line positive small rows start =
    let q : ℕ = 2 * line / size in
    let divides : size * q ≤ 2 * line = omega (arith, positive) in
    let least : q * 1 ≤ q * size = mul-le-mul_left q positive in
    record {
      some = positive;
      ranges = omega arith;
      start = start;
      size = small;
      few = omega (arith, divides, least, rows);
      short = omega (arith, divides, rows, small);
      far = omega (arith, rows);
      early = omega arith;
    }
