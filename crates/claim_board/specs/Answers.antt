-- What a claim answers.
use Rattle.std.specs.Prelude.{◌≡◌, ◌+◌, ◌<◌, true, false, cond, [], ◌∷◌, ◌++◌}
use Rattle.std.specs.List.{All}
use Rattle.claim_board.specs.Seen.{DrawerSeen}
use Rattle.claim_board.specs.declared.claim.Claim.{Claim}
use Rattle.claim_board.specs.declared.claim.Claim.TheVariants.{Range, AllDrawn}

-- a number below the count, above all that the drawer drew before, which one step added to its list;
-- or all were drawn, as one step found, or as the drawer knew: all else of the drawer stays
abbrev pub Answers : DrawerSeen → Claim → DrawerSeen → Type 0
Answers d (Range r) e = (d.done ≡ false) × (r < d.board.count) × All (λ x. x < r) d.drawn × (e ≡ record d { drawn = d.drawn ++ r ∷ []; steps = d.steps + 1 })
Answers d AllDrawn e = e ≡ record d { done = true; steps = cond d.done d.steps (d.steps + 1) }
