-- The windows that are cut so far stay those of the data as more bytes come.
use Rattle.std.proofs.Common.{◌≡◌, ℕ, zero, suc, ◌+◌, ◌-◌, ◌*◌, ◌<◌, ◌≤◌, ◌⊎◌, inl, inr, min, true, List, [], ◌∷◌, ◌++◌, length, take, drop, refl, sym, ap, ◌∙◌, subst, arith, append_assoc, length-append, length-drop}
use Rattle.std.specs.Prelude.{Option, slice_range}
use Rattle.std.specs.Io.KnownBytes.{IsAtEnd, Consumes}
use Rattle.std.proofs.KnownBytes.{Consumes-trans, Consumes-nil}
use Rattle.std.proofs.Math.Nat.{mul-le-mul_right}
use Rattle.std.proofs.lemmas.List.{append-nil, drop-append-le, drop-drop, drop_min, take-append-le}
use Rattle.std.proofs.lemmas.List.FromFn.{map-range_with_len_more}
use Rattle.range_guess.proofs.RangeNumbers.{map_range}
use Rattle.window_load.specs.Window.{WindowView, behind_front, IsFilled}
use Rattle.window_load.proofs.WindowSteps.{none_behind}
use Rattle.pipe_load.specs.declared.layout.Layout.{Layout}
use Rattle.pipe_load.specs.declared.window.Window.{Window}
use Rattle.pipe_load.specs.Layout.{IsLayout, stride, lead, want, window_start, window_of, windows_of, turned}
use Rattle.pipe_load.specs.Reading.{HasCut, CutsOn}

pub some_stride : (l : Layout) → IsLayout l → 0 < stride l
some_stride l layout = positive l.ranges l.range_size layout.ranges layout.some
  where
    positive : (a b : ℕ) → 0 < a → 0 < b → 0 < a * b
    positive a b p q = grind arith

-- a part of a list stays where more comes behind it
pub slice_more : (xs ys : List ℕ) (a n : ℕ) → a + n ≤ length xs → slice_range (xs ++ ys) a (a + n) ≡ slice_range xs a (a + n)
slice_more xs ys a n le =
    let inside : a ≤ length xs = omega (arith, le) in
    let enough : a + n - a ≤ length (drop a xs) = omega (arith, le, length-drop a xs) in
    ap (take (a + n - a)) (drop-append-le a xs ys inside) ∙ take-append-le (a + n - a) (drop a xs) ys enough

-- where window k ends and the next one's bytes begin
module _ (s reach : ℕ) (some : 0 < s) where
  abbrev pub place_start : ℕ → ℕ
  place_start k = k * s - 1

  abbrev pub place_len : ℕ → ℕ
  place_len k = min k 1 + s + reach

  one_more : (k : ℕ) → (k + 1) * s ≡ k * s + s
  one_more k = omega arith

  at_least : (k : ℕ) → 0 < k → s ≤ k * s
  at_least (suc k) p = omega arith
  at_least zero p = absurd (let none : ⊥ = omega (arith, p) in none)

  pub place_ends : (k : ℕ) → place_start k + place_len k ≡ (k + 1) * s + reach
  place_ends zero = omega arith
  place_ends (suc k) = let least = at_least (suc k) (omega arith) in omega (arith, one_more (suc k), least, some)

  pub place_next : (k : ℕ) → place_start k + (min k 1 + s - 1) ≡ place_start (k + 1)
  place_next zero = omega (arith, some)
  place_next (suc k) = let least = at_least (suc k) (omega arith) in omega (arith, one_more (suc k), least, some)

module _ (l : Layout) (layout : IsLayout l) where
  abbrev s : ℕ
  s = stride l

  some : 0 < s
  some = some_stride l layout

  -- where a window ends, and where the next one's bytes begin
  window_ends : (n : ℕ) → window_start l n + want l n ≡ (l.before + n + 1) * s + l.reach
  window_ends n = place_ends s l.reach some (l.before + n)

  next_starts : (n : ℕ) → window_start l n + (want l n - l.reach - 1) ≡ window_start l (n + 1)
  next_starts n =
      let e : l.before + n + 1 ≡ l.before + (n + 1) = omega arith in
      let width : want l n - l.reach - 1 ≡ min (l.before + n) 1 + s - 1 = omega arith in
      ap (λ m. window_start l n + m) width ∙ place_next s l.reach some (l.before + n) ∙ ap (λ m. m * s - 1) e

  -- the first windows stay where more bytes come behind them
  windows_stay : (got more : List ℕ) (n : ℕ) → (0 < n → window_start l (n - 1) + want l (n - 1) ≤ length got) → windows_of l (got ++ more) n ≡ windows_of l got n
  windows_stay got more n enough = map_range (window_of l (got ++ more)) (window_of l got) 0 n
      (λ k lt. let under : k < n = omega (arith, lt) in
      let far = enough (omega (arith, under)) in
      let within : window_start l k + want l k ≤ length got =
      (let last : k + 1 ≤ n = omega (arith, under) in
      let before_last : l.before + k + 1 ≤ l.before + (n - 1) + 1 = omega (arith, last) in
      omega (arith, far, window_ends k, window_ends (n - 1), mul-le-mul_right s before_last)) in
      λ i. record { number = k; bytes = slice_more got more (window_start l k) (want l k) within i })

  one_window_more : (got : List ℕ) (n : ℕ) → windows_of l got (n + 1) ≡ windows_of l got n ++ window_of l got n ∷ []
  one_window_more got n = map-range_with_len_more (window_of l got) 0 n n (let e : 0 + n ≡ n = omega arith in e)

  module _ (head : WindowView) (start before : Option (List ℕ)) (made : List Window) (read : List ℕ) (n : ℕ) (old : WindowView) (h : HasCut l head start before made read n old) where
    abbrev text : List ℕ
    text = head.kept ++ read

    in_hand : length old.kept ≡ length text - window_start l n
    in_hand = ap length h.kept ∙ length-drop (window_start l n) text

    -- the next window is in hand, or nothing comes behind it
    enough : (old.ended ≡ true) ⊎ (window_start l n + want l n ≤ length text)
    enough = elim h.filled.0 [ inl ended ↦ inl ended | inr le ↦ inr (omega (arith, le, in_hand, some)) ]

    -- whatever comes, the windows stay
    pub stay_on : (more : List ℕ) → (old.ended ≡ true → more ≡ []) → windows_of l (text ++ more) (n + 1) ≡ windows_of l text (n + 1)
    stay_on more may = elim enough [
      | inl ended ↦ ap (λ t. windows_of l t (n + 1)) (ap (λ m. text ++ m) (may ended) ∙ append-nil text)
      | inr le ↦ windows_stay text more (n + 1) (λ _. let same : n + 1 - 1 ≡ n = omega arith in subst (λ k. window_start l k + want l k ≤ length text) (sym same) le)
    ]

    pub stays : (more : List ℕ) → (old.ended ≡ true → more ≡ []) → windows_of l (text ++ more) n ≡ windows_of l text n
    stays more may = elim enough [
      | inl ended ↦ ap (λ t. windows_of l t n) (ap (λ m. text ++ m) (may ended) ∙ append-nil text)
      | inr le ↦ windows_stay text more n (λ p.
          let last : l.before + (n - 1) + 1 ≡ l.before + n = omega (arith, p) in
          let up : (l.before + n) * s ≤ (l.before + n + 1) * s = mul-le-mul_right s (let e : l.before + n ≤ l.before + n + 1 = omega arith in e) in
          omega (arith, window_ends (n - 1), window_ends n, ap (λ m. m * s) last, up, le))
    ]

    -- a window that is there begins before the end of the data
    pub begins : lead l n < length old.kept → (l.before + n) * s < length text
    begins there = by_place (l.before + n) refl (omega (arith, there, in_hand))
      where
        by_place : (p : ℕ) → p ≡ l.before + n → min p 1 + (p * s - 1) < length text → p * s < length text
        by_place zero e lt = let none : 0 * s ≡ 0 = omega arith in omega (arith, lt, none)
        by_place (suc p) e lt = omega (arith, lt)

    -- one more window is cut, and more comes
    module _ (there : lead l n < length old.kept) (after : Option (List ℕ)) (w : Window) (mid new : WindowView) (bytes : List ℕ)
        (cut_is : w ≡ record { number = n; bytes = take (want l n) old.kept }) (behind : mid ≡ behind_front (min (length old.kept) (want l n - l.reach - 1)) old)
        (moved : Consumes before after bytes) (comes : new.kept ≡ mid.kept ++ bytes) (base : new.base ≡ mid.base) (most : new.most ≡ mid.most) (still : mid.ended ≡ true → new ≡ mid)
        (filled : IsFilled (want l (n + 1)) new) (at_end : new.ended ≡ true → IsAtEnd after) where
      ended_is : mid.ended ≡ old.ended
      ended_is = ap (λ (v : WindowView). v.ended) behind

      pub none_more : old.ended ≡ true → bytes ≡ []
      none_more ended = none_behind mid.kept bytes (sym comes ∙ ap (λ (v : WindowView). v.kept) (still (ended_is ∙ ended)))

      pub still_ended : old.ended ≡ true → new.ended ≡ true
      still_ended ended = ap (λ (v : WindowView). v.ended) (still (ended_is ∙ ended)) ∙ ended_is ∙ ended

      mid_is : mid.kept ≡ drop (window_start l (n + 1)) text
      mid_is =
          ap (λ (v : WindowView). v.kept) behind ∙ ap (λ m. drop m old.kept) (let same : min (length old.kept) (want l n - l.reach - 1) ≡ min (want l n - l.reach - 1) (length old.kept) = omega arith in same) ∙ drop_min (want l n - l.reach - 1) old.kept ∙ ap (drop (want l n - l.reach - 1)) h.kept
          ∙ drop-drop (want l n - l.reach - 1) (window_start l n) text ∙ ap (λ m. drop m text) (next_starts n)

      kept_is : new.kept ≡ drop (window_start l (n + 1)) (head.kept ++ (read ++ bytes))
      kept_is = comes ∙ ap (λ k. k ++ bytes) mid_is ∙ joined ∙ ap (drop (window_start l (n + 1))) (append_assoc head.kept read bytes)
        where
          joined : drop (window_start l (n + 1)) text ++ bytes ≡ drop (window_start l (n + 1)) (text ++ bytes)
          joined = elim enough [
            | inl ended ↦ ap (λ b. drop (window_start l (n + 1)) text ++ b) (none_more ended) ∙ append-nil (drop (window_start l (n + 1)) text)
                ∙ ap (drop (window_start l (n + 1))) (sym (ap (λ b. text ++ b) (none_more ended) ∙ append-nil text))
            | inr le ↦ sym (drop-append-le (window_start l (n + 1)) text bytes (omega (arith, le, next_starts n)))
          ]

      window_is : w ≡ window_of l text n
      window_is =
          let width : window_start l n + want l n - window_start l n ≡ want l n = omega arith in
          cut_is ∙ (λ i. record { number = n; bytes = take (sym width i) (h.kept i) })

      pub cut_on : HasCut l head start after (made ++ w ∷ []) (read ++ bytes) (n + 1) new
      cut_on = record {
        moved = Consumes-trans start before after read bytes h.moved moved;
        none = λ e. ap (λ r. r ++ bytes) (h.none e) ∙ none_more (h.still e);
        still = λ e. still_ended (h.still e);
        kept = kept_is;
        windows =
            (λ i. h.windows i ++ window_is i ∷ []) ∙ sym (one_window_more text n) ∙ sym (stay_on bytes none_more)
            ∙ ap (λ t. windows_of l t (n + 1)) (append_assoc head.kept read bytes);
        begun = λ _. let same : l.before + (n + 1) - 1 ≡ l.before + n = omega arith in
            let longer : length (head.kept ++ (read ++ bytes)) ≡ length text + length bytes = ap length (sym (append_assoc head.kept read bytes)) ∙ length-append text bytes in
            let b = begins there in omega (arith, ap (λ m. m * s) same, longer, b);
        filled = filled;
        at_end = at_end;
        reaches =
            let mid_base : mid.base ≡ old.base + min (length old.kept) (want l n - l.reach - 1) = ap (λ (v : WindowView). v.base) behind in
            let mid_length : length mid.kept ≡ length old.kept - min (length old.kept) (want l n - l.reach - 1) =
            ap (λ (v : WindowView). length v.kept) behind ∙ length-drop (min (length old.kept) (want l n - l.reach - 1)) old.kept in
            let new_length : length new.kept ≡ length mid.kept + length bytes = ap length comes ∙ length-append mid.kept bytes in
            omega (arith, h.reaches, mid_base, mid_length, new_length, base, length-append read bytes);
        most = most ∙ ap (λ (v : WindowView). v.most) behind ∙ h.most;
      }

    -- no window is left where no range begins in what is in hand
    pub all_ended : length old.kept ≤ lead l n → old.ended ≡ true
    all_ended few = elim h.filled.0 [ inl ended ↦ ended | inr le ↦ absurd (let never : ⊥ = omega (arith, le, few, some) in never) ]

    pub all_covered : length old.kept ≤ lead l n → length text ≤ (l.before + n) * s
    all_covered few = by_place (l.before + n) refl (omega (arith, few, in_hand))
      where
        at_least : (m : ℕ) → s ≤ suc m * s
        at_least m = omega arith

        by_place : (p : ℕ) → p ≡ l.before + n → length text - (p * s - 1) ≤ min p 1 → length text ≤ p * s
        by_place zero e le = let none : 0 * s ≡ 0 = omega arith in omega (arith, le, none)
        by_place (suc p) e le = let least = at_least p in omega (arith, le, least, some)

    -- before the next round
    pub turn_on : HasCut (turned l n) head start before [] read 0 old
    turn_on =
        let same : l.before + n + 0 ≡ l.before + n = omega arith in record {
          moved = h.moved;
          none = h.none;
          still = h.still;
          kept = h.kept ∙ ap (λ m. drop (m * s - 1) text) (sym same);
          windows = refl;
          begun = λ p. subst (λ m. (m - 1) * s < length text) (sym same) (h.begun (omega (arith, p, same)));
          filled = subst (λ m. IsFilled (min m 1 + s + l.reach) old) (sym same) h.filled;
          at_end = h.at_end;
          reaches = h.reaches;
          most = h.most;
        }

  -- at the start of the data
  pub first_cut : (before after : Option (List ℕ)) (head new : WindowView) (bytes : List ℕ) → l.before ≡ 0 → Consumes before after bytes → new.kept ≡ head.kept ++ bytes → new.base ≡ head.base → new.most ≡ head.most →
      (head.ended ≡ true → new ≡ head) → IsFilled (want l 0) new → (new.ended ≡ true → IsAtEnd after) → HasCut l head before after [] bytes 0 new
  first_cut before after head new bytes first moved comes base most still filled at_end =
      let none : l.before + 0 ≡ 0 = omega (arith, first) in
      let place : window_start l 0 ≡ 0 = (let e : (l.before + 0) * s ≡ 0 * s = ap (λ m. m * s) none in let z : 0 * s ≡ 0 = omega arith in omega (arith, e, z)) in record {
        moved = moved;
        none = λ e. none_behind head.kept bytes (sym comes ∙ ap (λ (v : WindowView). v.kept) (still e));
        still = λ e. ap (λ (v : WindowView). v.ended) (still e) ∙ e;
        kept = comes ∙ ap (λ m. drop m (head.kept ++ bytes)) (sym place);
        windows = refl;
        begun = λ p. absurd (let never : ⊥ = omega (arith, p, none) in never);
        filled = filled;
        at_end = at_end;
        reaches = let e : length new.kept ≡ length head.kept + length bytes = ap length comes ∙ length-append head.kept bytes in omega (arith, e, base);
        most = most;
      }

  -- ---- a round

  pub cuts_none : (before : Option (List ℕ)) (old : WindowView) → CutsOn l before before [] 0 old old []
  cuts_none before old = record {
    moved = Consumes-nil before;
    stays = λ e. (refl, e);
    cut = λ head start read h. subst (λ r. HasCut l head start before [] r 0 old) (sym (append-nil read)) h;
  }

  pub cuts_more : (before between after : Option (List ℕ)) (made : List Window) (w : Window) (n : ℕ) (old held mid new : WindowView) (more bytes : List ℕ) → CutsOn l before between made n old held more → lead l n < length held.kept →
      w ≡ record { number = n; bytes = take (want l n) held.kept } → mid ≡ behind_front (min (length held.kept) (want l n - l.reach - 1)) held → Consumes between after bytes →
      new.kept ≡ mid.kept ++ bytes → new.base ≡ mid.base → new.most ≡ mid.most → (mid.ended ≡ true → new ≡ mid) → IsFilled (want l (n + 1)) new → (new.ended ≡ true → IsAtEnd after) →
      CutsOn l before after (made ++ w ∷ []) (n + 1) old new (more ++ bytes)
  cuts_more before between after made w n old held mid new more bytes h there cut_is behind moved comes base most still filled at_end = record {
    moved = Consumes-trans before between after more bytes h.moved moved;
    stays = λ e. let was = h.stays e in
        let mid_ended : mid.ended ≡ true = ap (λ (v : WindowView). v.ended) behind ∙ was.1 in
        let nothing : bytes ≡ [] = none_behind mid.kept bytes (sym comes ∙ ap (λ (v : WindowView). v.kept) (still mid_ended)) in
        (ap (λ m. m ++ bytes) was.0 ∙ nothing, ap (λ (v : WindowView). v.ended) (still mid_ended) ∙ mid_ended);
    cut = λ head start read first. subst (λ r. HasCut l head start after (made ++ w ∷ []) r (n + 1) new) (append_assoc read more bytes)
        (cut_on head start between made (read ++ more) n held (h.cut head start read first) there after w mid new bytes cut_is behind moved comes base most still filled at_end);
  }
