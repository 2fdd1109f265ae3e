-- A window that goes on behind its first bytes.
use Rattle.std.proofs.Common.{◌≡◌, ℕ, ◌+◌, ◌≤◌, true, List, [], ◌++◌, length, drop, Option, refl, sym, ◌∙◌, ap, subst, arith, append_assoc, length-append, length-drop}
use Rattle.std.proofs.KnownBytes.{Consumes-trans}
use Rattle.range_scan.specs.declared.context.Context.{Context}
use Rattle.window_load.specs.declared.course.Course.{Course}
use Rattle.window_load.specs.declared.data_read.WindowRead.{WindowRead}
use Rattle.window_load.specs.DataRead.{IsWindowRead}
use Rattle.window_load.specs.Reading.{MayGoOn, IsReadInWindows}
use Rattle.window_load.specs.Window.{WindowView, behind_front, reach, GoesOn, ReachesOn}
use Rattle.window_load.proofs.ReachedOn.{drops_and_reaches}
use Rattle.window_load.proofs.WindowSteps.{none_behind}

module _ (before after : Option (List ℕ)) (n : ℕ) (w w2 : WindowView) (g : GoesOn before after n w w2) where
  abbrev new : List ℕ
  new = g.moved.0

  none_came : w.ended ≡ true → new ≡ []
  none_came ended = none_behind (drop n w.kept) new (sym g.moved.1 ∙ ap (λ (v : WindowView). v.kept) (g.stays ended))

  pub still_ended : w.ended ≡ true → w2.ended ≡ true
  still_ended ended = ap (λ (v : WindowView). v.ended) (g.stays ended) ∙ ended

  may_before : (more : List ℕ) → MayGoOn w2 more → MayGoOn w (new ++ more)
  may_before more may ended = let none = none_came ended in let last = may (still_ended ended) in λ i. none i ++ last i

  module _ (within : n ≤ length w.kept) where
    pub goes_on_and_reaches : ReachesOn before after w w2
    goes_on_and_reaches = drops_and_reaches before after n w (behind_front n w) w2 refl within g.moved g.base g.most

    -- what is read stays read, whatever comes behind it
    pub still_read : (context : Context) (course : Course) (first : Option (List ℕ)) (old : WindowView) (read : WindowRead) →
        IsReadInWindows context course first before old w read → IsReadInWindows context course first after old w2 read
    still_read context course first old read r =
        let text : List ℕ = old.kept ++ r.0 in
        let reached : reach w2 ≡ reach w + length new = omega (arith, within, g.base, ap length g.moved.1, length-append (drop n w.kept) new, length-drop n w.kept) in
        let whole : text ++ new ≡ old.kept ++ (r.0 ++ new) = append_assoc old.kept r.0 new in
        let later : (more : List ℕ) → text ++ (new ++ more) ≡ (old.kept ++ (r.0 ++ new)) ++ more = λ more. sym (append_assoc text new more) ∙ ap (λ xs. xs ++ more) whole in (
          r.0 ++ new,
          Consumes-trans first before after r.0 new r.1 g.moved.2,
          omega (arith, r.2, reached, length-append r.0 new),
          λ ended. let quiet = r.3 ended in let none = none_came quiet.1 in ((λ i. quiet.0 i ++ none i), still_ended quiet.1),
          λ more may. subst (λ t. IsWindowRead context t course.start course.range_size course.stop read) (later more) (r.4 (new ++ more) (may_before more may)),
        )
