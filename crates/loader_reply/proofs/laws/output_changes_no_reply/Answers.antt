use Rattle.std.proofs.Common.{◌≡◌, List, Option, ℕ, refl}
use Rattle.column_taps.specs.Seen.{Seen}
use Rattle.load_options.specs.declared.options.Request.{Request}
use Rattle.loader_reply.specs.Asking.{asked_by}
use Rattle.loader_reply.specs.Reply.{asked_reply}
use Rattle.loader_reply.specs.declared.replying.Asked.{Asked}
use Rattle.loader_reply.specs.declared.replying.Asked.TheVariants.{Made, Sniffed, Split, Loaded}
use Rattle.loader_reply.proofs.laws.output_changes_no_reply.Goals as goal

module _ (request : Request) (output : Option (List ℕ)) (words : List (List ℕ)) (taps : List Seen) (opened : List (Option (List ℕ))) where
  same : (asked : Asked) → asked_reply asked (record request { output = output }) words taps opened ≡ asked_reply asked request words taps opened
  same Made = refl
  same Sniffed = refl
  same Split = refl
  same (Loaded answer several) = refl

pub returns : goal.returns
returns c = λ request output words taps opened. same request output words taps opened (asked_by request.options request.command)
