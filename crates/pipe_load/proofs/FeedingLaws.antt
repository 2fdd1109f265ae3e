-- Windows are put in the order of their numbers.
use Rattle.std.proofs.Common.{◌≡◌, ℕ, suc, ◌+◌, ◌-◌, ◌<◌, ◌≤◌, min, true, List, [], ◌∷◌, ◌++◌, length, take, get_or, refl, sym, ap, ◌∙◌, subst, arith, length-append, append_assoc, lt_of_not-le}
use Rattle.std.specs.Prelude.{Option, Some, None, Result, Err}
use Rattle.std.specs.Io.KnownBytes.{IsAtEnd}
use Rattle.std.proofs.lemmas.List.{get_or_append_left, get_or_at}
use mathlib.Core.Logic.{dite}
use native.Mathlib.Decide.{dec_le}
use Rattle.window_load.specs.declared.stop.LoadStop.{LoadStop}
use Rattle.window_load.specs.Reads.{Reads, stop_in}
use Rattle.window_load.specs.Window.{WindowView, behind_front, IsFilled}
use Rattle.window_load.proofs.ReadSteps.{drops_on}
use Rattle.pipe_load.specs.declared.layout.Layout.{Layout}
use Rattle.pipe_load.specs.declared.reader.Reader.{Reader}
use Rattle.pipe_load.specs.declared.window.Window.{Window}
use Rattle.pipe_load.specs.Feeding.{AreNumbered}
use Rattle.pipe_load.specs.Layout.{IsLayout, lead, want}
use Rattle.pipe_load.specs.Reading.{Fills, IsCut, CutsOn, passed}
use Rattle.pipe_load.proofs.CuttingLaws.{cuts_more}

-- the window that waits first has the number of windows that were put
pub next_number : (put waiting : List Window) (w : Window) (rest : List Window) → waiting ≡ w ∷ rest → AreNumbered (put ++ waiting) → w.number ≡ length put
next_number put waiting w rest is numbered =
    let numbers : AreNumbered (put ++ w ∷ rest) = subst (λ ws. AreNumbered (put ++ ws)) is numbered in
    let within : length put < length (put ++ w ∷ rest) = omega (arith, length-append put (w ∷ rest)) in
    ap (λ (x : Window). x.number) (sym (get_or_at put w rest w (length put) refl)) ∙ numbers (length put) w within

-- one more window with the next number
pub one_more_number : (ws : List Window) (w : Window) → AreNumbered ws → w.number ≡ length ws → AreNumbered (ws ++ w ∷ [])
one_more_number ws w numbered next k d lt = below_more ws w d k lt numbered next
  where
    below_more : (ws : List Window) (w d : Window) (k : ℕ) → k < length (ws ++ w ∷ []) → AreNumbered ws → w.number ≡ length ws → (get_or (ws ++ w ∷ []) k d).number ≡ k
    below_more ws w d k lt numbered next = dite (dec_le (suc k) (length ws))
        (λ here. ap (λ (x : Window). x.number) (get_or_append_left ws (w ∷ []) d k (omega (arith, here))) ∙ numbered k d (omega (arith, here)))
        (λ there. let last : k ≡ length ws = omega (arith, lt, length-append ws (w ∷ []), lt_of_not-le there) in
        ap (λ n. (get_or (ws ++ w ∷ []) n d).number) last ∙ ap (λ (x : Window). x.number) (get_or_at ws w [] d (length ws) refl) ∙ next ∙ sym last)

-- the windows with one more at the end of those that wait
pub kept_numbered : (put waiting more : List Window) (w : Window) → more ≡ waiting ++ w ∷ [] → AreNumbered (put ++ waiting) → w.number ≡ length (put ++ waiting) → AreNumbered (put ++ more)
kept_numbered put waiting more w is numbered next =
    subst AreNumbered (append_assoc put waiting (w ∷ []) ∙ ap (λ ws. put ++ ws) (sym is)) (one_more_number (put ++ waiting) w numbered next)

-- a window is cut: what is in hand reaches as far
pub cut_reads : {Held : Type 0} {before between : Option (List ℕ)} {held_before held_between : Held} {faults_before faults_between : ℕ} {old : WindowView} {held mid : Reader} {w : Window} → IsCut held mid w →
    Reads before between held_before held_between faults_before faults_between old held.window None → Reads before between held_before held_between faults_before faults_between old mid.window None
cut_reads {held = held} {mid = mid} cut r = let few : passed held ≤ length held.window.kept = omega arith in drops_on r (passed held) mid.window cut.behind few

-- a result that hands on why a reading ended
pub reads_as : {Held : Type 0} {before after : Option (List ℕ)} {held_before held_after : Held} {faults_before faults_after : ℕ} {old new : WindowView} {A : Type 0} (result : Result A LoadStop) (stop : LoadStop) → result ≡ Err stop →
    Reads before after held_before held_after faults_before faults_after old new (Some stop) → Reads before after held_before held_after faults_before faults_after old new (stop_in result)
reads_as {before = before} {after = after} {held_before = held_before} {held_after = held_after} {faults_before = faults_before} {faults_after = faults_after} {old = old} {new = new} result stop is r =
    subst (λ (s : Option LoadStop). Reads before after held_before held_after faults_before faults_after old new s) (sym (ap stop_in is)) r

-- ---- one more window of a round is cut, and the next one comes in hand

module _ (l : Layout) (layout : IsLayout l) (before between after : Option (List ℕ)) (w : Window) (held mid new : Reader) (same : held.layout ≡ l) (cut : IsCut held mid w) (fills : Fills between after mid new) where
  pub cuts_one_more : (made : List Window) (old : WindowView) (more : List ℕ) → CutsOn l before between made held.number old held.window more → lead held.layout held.number < length held.window.kept →
      IsFilled (want mid.layout mid.number) new.window → (new.window.ended ≡ true → IsAtEnd after) → CutsOn l before after (made ++ w ∷ []) new.number old new.window (more ++ fills.moved.0)
  cuts_one_more made old more h there filled at_end =
      let number : new.number ≡ held.number + 1 = fills.number ∙ cut.number in
      let filled_on : IsFilled (want l (held.number + 1)) new.window =
      subst (λ (x : Layout). IsFilled (want x (held.number + 1)) new.window) (cut.layout ∙ same) (subst (λ m. IsFilled (want mid.layout m) new.window) cut.number filled) in
      subst (λ n. CutsOn l before after (made ++ w ∷ []) n old new.window (more ++ fills.moved.0)) (sym number)
      (cuts_more l layout before between after made w held.number old held.window mid.window new.window more fills.moved.0 h
      (subst (λ (x : Layout). lead x held.number < length held.window.kept) same there)
      (cut.is ∙ ap (λ (x : Layout). record { number = held.number; bytes = take (want x held.number) held.window.kept }) same)
      (cut.behind ∙ ap (λ (x : Layout). behind_front (min (length held.window.kept) (want x held.number - x.reach - 1)) held.window) same)
      fills.moved.2 fills.moved.1 fills.base fills.most fills.stays filled_on at_end)
