use Rattle.std.proofs.Common.{◌≡◌, ℕ, ◌+◌, ◌<◌, Bool, false, cond, map, drop, get_or, Option, Some, sym, ◌∙◌, ap, string_bytes}
use Rattle.std.specs.List.{find}
use Rattle.std.proofs.lemmas.List.{drop_more}
use Rattle.load_options.specs.declared.conflict.Conflict.{Conflict}
use Rattle.load_options.specs.declared.conflict.TheConstants.{CONFLICTS}
use Rattle.load_options.specs.Conflicts.{holds}
use Rattle.load_options.proofs.conflicts.conflict_of.Goals as goal

-- a conflict that there isn't is passed over
other_conflict : (p : Conflict → Bool) (i : ℕ) (d : Conflict) (whole : Option Conflict) → i < 19 → p (get_or CONFLICTS i d) ≡ false → find p (drop i CONFLICTS) ≡ whole → find p (drop (i + 1) CONFLICTS) ≡ whole
other_conflict p i d whole lt fails h =
    sym (ap (find p) (drop_more CONFLICTS i d lt) ∙ ap (λ t. cond t (Some (get_or CONFLICTS i d)) (find p (drop (i + 1) CONFLICTS))) fails) ∙ h

pub loop-conflict-preserved : goal.loop-conflict-preserved
loop-conflict-preserved c =
    other_conflict (holds c.args.command (map string_bytes c.args.words.now) c.args.options.now) c.loop-conflict.conflict-index _ _ c.loop-conflict-test.true
    (sym c.holds.ensures ∙ c.if-holds.false) c.loop-conflict.invariant
