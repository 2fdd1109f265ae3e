-- How far data are read in windows, step by step.
use Rattle.std.proofs.Common.{◌≡◌, ◌⊎◌, inl, inr, ℕ, ◌+◌, ◌-◌, ◌<◌, ◌≤◌, min, true, List, [], ◌++◌, length, Option, refl, sym, ◌∙◌, ap, subst, arith, append_assoc, length-append, length-drop}
use Rattle.std.specs.Io.KnownBytes.{Consumes}
use Rattle.std.proofs.KnownBytes.{Consumes-nil, Consumes-trans}
use Rattle.csv_source.specs.Moves.{MovesFront}
use Rattle.window_load.specs.Reading.{MayGoOn}
use Rattle.window_load.specs.Window.{WindowView, reach, behind_front}
use Rattle.window_load.proofs.WindowSteps.{Stands, stands_first, stands_on, may_before, none_new, still_ended, stands_next}

-- the data that were held at first and what came behind them are read up to step k, at which the window stands, and something holds of all data, whatever comes later
pub record IsReadSoFar (Holds : List ℕ → Type 0) (start width : ℕ) (left_before left_after : Option (List ℕ)) (old w : WindowView) (k at : ℕ) : Type 0 where
  pub came : List ℕ
  pub taken : Consumes left_before left_after came
  pub stands : Stands start width k at (old.kept ++ came) w
  pub reached : reach w ≡ reach old + length came
  pub most : w.most ≡ old.most
  pub quiet : old.ended ≡ true → (came ≡ []) × (w.ended ≡ true)
  pub read : (more : List ℕ) → MayGoOn w more → Holds ((old.kept ++ came) ++ more)

pub read_none : (Holds : List ℕ → Type 0) (start width : ℕ) (left : Option (List ℕ)) (old : WindowView) → old.base ≡ start → ((text : List ℕ) → Holds text) →
    IsReadSoFar Holds start width left left old old 0 0
read_none Holds start width left old begins holds = record {
  came = [];
  taken = Consumes-nil left;
  stands = stands_first start width old begins;
  reached = omega arith;
  most = refl;
  quiet = λ ended. (refl, ended);
  read = λ more may. holds ((old.kept ++ []) ++ more);
}

module _ (Holds : List ℕ → Type 0) (start width : ℕ) (left_before left_after : Option (List ℕ)) (old w : WindowView) (k at : ℕ) (r : IsReadSoFar Holds start width left_before left_after old w k at) where
  abbrev text : List ℕ
  text = old.kept ++ r.came

  -- more bytes come
  pub read_more : (left_next : Option (List ℕ)) (w2 : WindowView) → MovesFront left_after left_next w.kept w2.kept → w2.base ≡ w.base → w2.most ≡ w.most → (w.ended ≡ true → w2 ≡ w) →
      IsReadSoFar Holds start width left_before left_next old w2 k at
  read_more left_next w2 moves base most stays =
      let new : List ℕ = moves.0 in
      let whole : text ++ new ≡ old.kept ++ (r.came ++ new) = append_assoc old.kept r.came new in
      let later : (more : List ℕ) → text ++ (new ++ more) ≡ (old.kept ++ (r.came ++ new)) ++ more = λ more. sym (append_assoc text new more) ∙ ap (λ xs. xs ++ more) whole in
      let may : (more : List ℕ) → MayGoOn w2 more → MayGoOn w (new ++ more) = may_before start width k at text w r.stands new w2 moves.1 base stays in
      record {
        came = r.came ++ new;
        taken = Consumes-trans left_before left_after left_next r.came new r.taken moves.2;
        stands = subst (λ t. Stands start width k at t w2) whole (stands_on start width k at text w r.stands new w2 moves.1 base stays);
        reached = omega (arith, r.reached, base, ap length moves.1, length-append w.kept new, length-append r.came new);
        most = most ∙ r.most;
        quiet = λ ended.
            let before = r.quiet ended in (
              (λ i. before.0 i ++ none_new start width k at text w r.stands new w2 moves.1 base stays before.1 i),
              still_ended start width k at text w r.stands new w2 moves.1 base stays before.1,
            );
        read = λ more ends. subst Holds (later more) (r.read (new ++ more) (may more ends));
      }

  -- where no step is left, it has so many bytes
  pub read_length : (some : 0 < width) (line : ℕ) (filled : (w.ended ≡ true) ⊎ (at + (width + (line + 1)) ≤ length w.kept)) → at ≡ length w.kept → old.base ≡ start →
      (more : List ℕ) → MayGoOn w more → reach w - start ≡ length (text ++ more)
  read_length some line filled over begins more may =
      let ended : w.ended ≡ true = elim filled [ inl ended ↦ ended | inr far ↦ absurd (let wrong : ⊥ = omega (arith, far, over) in wrong) ] in
      omega (arith, r.reached, begins, length-append old.kept r.came, length-append text more, ap length (may ended))

  -- a step is read
  pub read_step : (Next : List ℕ → Type 0) (some : 0 < width) (line : ℕ) (filled : (w.ended ≡ true) ⊎ (at + (width + (line + 1)) ≤ length w.kept)) (there : at < length w.kept) →
      ((more : List ℕ) → MayGoOn w more → Holds (text ++ more) → Next (text ++ more)) →
      IsReadSoFar Next start width left_before left_after old (behind_front (min (at + width) (length w.kept) - 1) w) (k + 1) 1
  read_step Next some line filled there next = record {
    came = r.came;
    taken = r.taken;
    stands = stands_next start width k at text w r.stands some line filled there;
    reached = let first : ℕ = min (at + width) (length w.kept) - 1 in omega (arith, r.reached, there, length-drop first w.kept);
    most = r.most;
    quiet = r.quiet;
    read = λ more may. next more may (r.read more may);
  }
