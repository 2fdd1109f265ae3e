-- A file that is read by its head and what comes behind it.
use Rattle.std.proofs.Common.{◌≡◌, ℕ, List, ◌++◌, Option, true, []}
use Rattle.std.specs.Io.KnownBytes.{Consumes}
use Rattle.window_load.specs.DataRead.{ComesWhole, ComesOver}
use Rattle.window_load.specs.Window.{WindowView}
use Rattle.loader_reply.specs.Batch.{IsOpened, IsReadWhole, IsReadOver}
use Rattle.loader_reply.proofs.HeadSteps.{comes_weaker, comes_from, over_from}
use Rattle.loader_reply.proofs.InputLemmas.{input_whole, input_over}

module _ (limit : ℕ) (held : Option (List (List ℕ × List ℕ))) (name : List ℕ) (before after : Option (List ℕ)) (head : WindowView) (fits : head.most ≡ limit)
    (opened : IsOpened held name (λ first. Consumes first before head.kept)) where
  pub whole_file : (P Q : List ℕ → Type 0) → ((came : List ℕ) → (head.ended ≡ true → came ≡ []) → P (head.kept ++ came) → Q (head.kept ++ came)) → ComesWhole before after head P → IsReadWhole limit held name after Q
  whole_file P Q gives comes =
      input_whole limit held name opened.0 after opened.1 Q (comes_from before after head opened.0 limit Q opened.2 fits (comes_weaker before after head P Q gives comes))

  pub over_file : ComesOver before after head → IsReadOver limit held name after
  over_file comes = input_over limit held name opened.0 after opened.1 (over_from before after head opened.0 limit opened.2 fits comes)
