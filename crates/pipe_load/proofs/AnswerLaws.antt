-- What is loaded of the data behind a place of the head.
use Rattle.std.proofs.Common.{◌≡◌, ℕ, ◌+◌, ◌-◌, ◌≤◌, Bool, List, ◌++◌, length, drop, Option, sym, ap, ◌∙◌, subst, arith, length-append, length-drop}
use Rattle.std.specs.Prelude.{Some, Result, Err}
use Rattle.std.specs.Io.KnownBytes.{Consumes}
use Rattle.std.proofs.lemmas.List.{drop-append-le}
use Rattle.range_scan.specs.declared.context.Context.{Context}
use Rattle.window_load.specs.declared.data_read.DataRead.{DataRead}
use Rattle.window_load.specs.declared.data_read.WindowRead.{WindowRead}
use Rattle.window_load.specs.declared.stop.LoadStop.{LoadStop}
use Rattle.window_load.specs.DataRead.{IsDataRead, IsWindowRead, ComesWhole, ComesOver}
use Rattle.window_load.specs.Window.{WindowView, reach, behind_front}
use Rattle.pipe_load.specs.Loading.{IsAllRead}

-- a result that is told twice
pub one_stop : {A : Type 0} (result : Result A LoadStop) (stop other : LoadStop) → result ≡ Err stop → result ≡ Err other → Some stop ≡ Some other
one_stop result stop other is told = cc

module _ (head w : WindowView) (start : ℕ) (before after : Option (List ℕ)) (begins : head.base ≡ 0) (within : start ≤ length head.kept) (dropped : w ≡ behind_front start head) where
  reaches : (came : List ℕ) → reach w + length came ≡ length (head.kept ++ came)
  reaches came =
      let base : w.base ≡ head.base + start = ap (λ (v : WindowView). v.base) dropped in
      let size : length w.kept ≡ length head.kept - start = ap (λ (v : WindowView). length v.kept) dropped ∙ length-drop start head.kept in
      omega (arith, base, size, begins, within, length-append head.kept came)

  most : w.most ≡ head.most
  most = ap (λ (v : WindowView). v.most) dropped

  pub comes_over : (came : List ℕ) → Consumes before after came → reach w + length came ≡ w.most + 1 → ComesOver before after head
  comes_over came moved over = (came, moved, omega (arith, reaches came, over, most))

  pub comes_whole : (context : Context) (size : ℕ) (stop : Bool) (read : DataRead) (answer : WindowRead) (all : (came : List ℕ) × IsAllRead context start size w before after came read)
      → (IsDataRead context (w.kept ++ all.0) start size read → IsWindowRead context (w.kept ++ all.0) start size stop answer)
      → ComesWhole before after head (λ input. IsWindowRead context (drop start input) start size stop answer)
  comes_whole context size stop read answer all answers =
      let text_is : w.kept ++ all.0 ≡ drop start (head.kept ++ all.0) =
      ap (λ (v : WindowView). v.kept ++ all.0) dropped ∙ sym (drop-append-le start head.kept all.0 within) in
      let few = all.1.within in (
        all.0,
        all.1.moved,
        all.1.at_end,
        (λ e. all.1.none (ap (λ (v : WindowView). v.ended) dropped ∙ e)),
        omega (arith, few, reaches all.0, most),
        subst (λ (t : List ℕ). IsWindowRead context t start size stop answer) text_is (answers all.1.is),
      )
