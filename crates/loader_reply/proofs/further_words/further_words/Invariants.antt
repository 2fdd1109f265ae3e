use Rattle.std.proofs.Common.{◌≡◌, ◌++◌, drop}
use Rattle.std.specs.Prelude.{filter}
use Rattle.loader_reply.specs.FurtherWords.{is_further}
use Rattle.loader_reply.specs.Reply.{texts}
use Rattle.loader_reply.proofs.further_words.further_words.Given as goal

-- the words so far, and those among the words that are left
abbrev pub invariant-loop-place : goal.invariant-loop-place
invariant-loop-place l = l.further ++ filter is_further (drop l.place (texts l.words)) ≡ filter is_further (drop 2 (texts l.words))
