-- What readings do to a source, one after another.
use Rattle.std.proofs.Common.{◌≡◌, ℕ, ◌+◌, ◌≤◌, true, List, [], length, Option, Some, None, refl, sym, ◌∙◌, ap, subst, arith, length-append}
use Rattle.std.specs.Prelude.{Result, Ok, Err}
use Rattle.std.specs.Io.KnownBytes.{IsAtEnd}
use Rattle.std.proofs.KnownBytes.{Consumes-nil}
use Rattle.csv_source.specs.Causes.{Rose}
use Rattle.csv_source.specs.Moves.{MovesFront}
use Rattle.window_load.specs.declared.stop.LoadStop.{LoadStop}
use Rattle.window_load.specs.declared.stop.LoadStop.TheVariants as stops
use Rattle.window_load.specs.Reads.{Reads, stop_in}
use Rattle.window_load.specs.Window.{WindowView, reach, behind_front, ReachesOn}
use Rattle.window_load.proofs.ReachedOn.{reaches_twice, reach-behind}

-- a window that is filled reaches further
pub fill_reaches : (before after : Option (List ℕ)) (w w2 : WindowView) → MovesFront before after w.kept w2.kept → w2.base ≡ w.base → w2.most ≡ w.most → ReachesOn before after w w2
fill_reaches before after w w2 moved base most = (moved.0, moved.2, omega (arith, base, ap length moved.1, length-append w.kept moved.0), most)

-- a reading that has a stop ended with it
stopped : {A : Type 0} (result : Result A LoadStop) (stop : LoadStop) → stop_in result ≡ Some stop → result ≡ Err stop
stopped (Ok a) stop e = absurd (let no : ⊥ = cc in no)
stopped (Err other) stop e = cc

module _ {Held : Type 0} where
  -- nothing was read yet
  pub reads_none : (left : Option (List ℕ)) (held : Held) (faults : ℕ) (w : WindowView) → (w.ended ≡ true → IsAtEnd left) → Reads left left held held faults faults w w None
  reads_none left held faults w at_end = record {
    moved = ([], Consumes-nil left, omega arith, refl);
    at_end = at_end;
    held = refl;
    count = omega arith;
    too_large = λ e. absurd (let no : ⊥ = cc in no);
    failed = λ e. absurd (let no : ⊥ = cc in no);
  }

  -- from an equal window on, and up to one
  pub reads_from : {la lb : Option (List ℕ)} {ha hb : Held} {fa fb : ℕ} {x y z : WindowView} {stop : Option LoadStop} → x ≡ z → Reads la lb ha hb fa fb x y stop → Reads la lb ha hb fa fb z y stop
  reads_from {la} {lb} {ha} {hb} {fa} {fb} {x} {y} {z} {stop} same r = subst (λ (v : WindowView). Reads la lb ha hb fa fb v y stop) same r

  pub reads_same : {la lb : Option (List ℕ)} {ha hb : Held} {fa fb : ℕ} {x y z : WindowView} {stop : Option LoadStop} → Reads la lb ha hb fa fb x y stop → z ≡ y → Reads la lb ha hb fa fb x z stop
  reads_same {la} {lb} {ha} {hb} {fa} {fb} {x} {y} {z} {stop} r same = subst (λ (v : WindowView). Reads la lb ha hb fa fb x v stop) (sym same) r

  module _ {la lb : Option (List ℕ)} {ha hb : Held} {fa fb : ℕ} {x y : WindowView} (r : Reads la lb ha hb fa fb x y None) where
    -- memory ran short behind it
    pub reads_short : {A : Type 0} (result : Result A LoadStop) → result ≡ Err stops.NoMemory → Reads la lb ha hb fa fb x y (stop_in result)
    reads_short result short = subst (λ res. Reads la lb ha hb fa fb x y (stop_in res)) (sym short) record {
      moved = r.moved;
      at_end = r.at_end;
      held = r.held;
      count = r.count;
      too_large = λ e. absurd (let no : ⊥ = cc in no);
      failed = λ e. absurd (let no : ⊥ = cc in no);
    }

    -- another reading follows
    module _ {lc : Option (List ℕ)} {hc : Held} {fc : ℕ} {z : WindowView} where
      pub reads_on : (stop : Option LoadStop) → ReachesOn lb lc y z → (z.ended ≡ true → IsAtEnd lc) → hc ≡ hb → fb ≤ fc →
          (stop ≡ Some stops.TooLarge → reach z ≡ z.most + 1) → (stop ≡ Some stops.Failed → Rose fb fc) → Reads la lc ha hc fa fc x z stop
      reads_on stop moved at_end held count too_large failed = record {
        moved = reaches_twice la lb lc x y z r.moved moved;
        at_end = at_end;
        held = held ∙ r.held;
        count = let before = r.count in omega (arith, before, count);
        too_large = too_large;
        failed = λ e. let rose = failed e in let before = r.count in omega (arith, rose, before);
      }

      pub reads_twice : {stop : Option LoadStop} → Reads lb lc hb hc fb fc y z stop → Reads la lc ha hc fa fc x z stop
      reads_twice {stop} q = reads_on stop q.moved q.at_end q.held q.count q.too_large q.failed

    -- another call follows, whose result says what it met
    pub answers_on : {A : Type 0} (lc : Option (List ℕ)) (hc : Held) (fc : ℕ) (z : WindowView) (result : Result A LoadStop) (stop : Option LoadStop) → stop_in result ≡ stop →
        ReachesOn lb lc y z → (z.ended ≡ true → IsAtEnd lc) → hc ≡ hb → fb ≤ fc →
        (result ≡ Err stops.TooLarge → reach z ≡ z.most + 1) → (result ≡ Err stops.Failed → Rose fb fc) → Reads la lc ha hc fa fc x z stop
    answers_on lc hc fc z result stop is moved at_end held count too_large failed =
        reads_on {lc = lc} {hc = hc} {fc = fc} {z = z} stop moved at_end held count (λ e. too_large (stopped result stops.TooLarge (is ∙ e))) (λ e. failed (stopped result stops.Failed (is ∙ e)))

    -- bytes at the front are dropped
    pub drops_on : (n : ℕ) (z : WindowView) → z ≡ behind_front n y → n ≤ length y.kept → Reads la lb ha hb fa fb x z None
    drops_on n z is within = subst (λ (v : WindowView). Reads la lb ha hb fa fb x v None) (sym is) record {
      moved = (r.moved.0, r.moved.1, reach-behind n y within ∙ r.moved.2, r.moved.3);
      at_end = r.at_end;
      held = r.held;
      count = r.count;
      too_large = λ e. absurd (let no : ⊥ = cc in no);
      failed = λ e. absurd (let no : ⊥ = cc in no);
    }
